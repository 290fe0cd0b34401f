use Rattle.std.proofs.Common.{◌≡◌}
use Rattle.std.specs.Prelude.{string_bytes}
use Rattle.workloads.specs.Circuits.{with_inputs}
use Rattle.workloads.proofs.circuit.put_inputs.Given as goal

abbrev pub invariant-loop-input : goal.invariant-loop-input
invariant-loop-input l = string_bytes l.text ≡ with_inputs l.input (string_bytes l.initial.text)
