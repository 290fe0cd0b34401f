use Rattle.std.proofs.Common.{◌-◌}
use Rattle.graph.specs.States.{state}
use Rattle.graph_model.specs.WellFormed.{Extends}
use Rattle.workloads.proofs.Stepping.{Completes}
use Rattle.workloads.proofs.question.xor_down.Given as goal

abbrev pub invariant-loop-done : goal.invariant-loop-done
invariant-loop-done g l = Extends (state l.initial.graph) (state l.graph) × Completes (state l.graph) l.edge (16 - l.done)
