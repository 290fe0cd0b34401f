use Rattle.graph.specs.States.{state}
use Rattle.graph_model.specs.WellFormed.{Extends}
use Rattle.workloads.specs.Questions.{Means, all_true}
use Rattle.workloads.proofs.question.and_up.Given as goal

abbrev pub invariant-loop-input : goal.invariant-loop-input
invariant-loop-input g l = Extends (state l.initial.graph) (state l.graph) × Means (state l.graph) l.edge (λ ρ. all_true ρ l.input)
