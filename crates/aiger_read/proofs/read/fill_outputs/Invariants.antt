use Rattle.std.proofs.Common.{◌≡◌, ◌++◌, map, take, drop}
use Rattle.aiger_read.specs.Requests.{through}
use Rattle.aiger_read.proofs.read.fill_outputs.Given as goal

abbrev pub invariant-loop-output : goal.invariant-loop-output
invariant-loop-output l = l.outputs ≡ map (λ e. through l.map e.0) (take l.output-index l.initial.outputs) ++ drop l.output-index l.initial.outputs
