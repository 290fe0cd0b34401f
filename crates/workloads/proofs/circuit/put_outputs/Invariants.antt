use Rattle.std.proofs.Common.{◌≡◌}
use Rattle.workloads.specs.Circuits.{draft, with_outputs}
use Rattle.workloads.proofs.circuit.put_outputs.Given as goal

abbrev pub invariant-loop-output : goal.invariant-loop-output
invariant-loop-output l = draft l.text l.random ≡ with_outputs l.literals l._output (draft l.initial.text l.initial.random)
