use Rattle.std.proofs.Common.{◌≡◌}
use Rattle.workloads.specs.Circuits.{draft, with_gates}
use Rattle.workloads.proofs.circuit.put_gates.Given as goal

abbrev pub invariant-loop-gate : goal.invariant-loop-gate
invariant-loop-gate l = draft l.text l.random ≡ with_gates l.gate (draft l.initial.text l.initial.random)
