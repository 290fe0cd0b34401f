use Rattle.std.proofs.Common.{◌≡◌, refl, ap, ◌∙◌, arith}
use Rattle.std.specs.Prelude.{string_bytes}
use Rattle.workloads.specs.Circuits.{with_inputs}
use Rattle.workloads.proofs.Drafts.{more_inputs}
use Rattle.workloads.proofs.circuit.put_inputs.Goals as goal

pub loop-input-init : goal.loop-input-init
unfolding with_inputs
loop-input-init c = refl

pub loop-input-preserved : goal.loop-input-preserved
loop-input-preserved c = more_inputs c.loop-input.input (string_bytes c.args.text.now) (string_bytes c.loop-input.text) (string_bytes c.writeln.new.self) c.loop-input.invariant c.in_ok-writeln.ensures.bytes

pub returns : goal.returns
returns c = let e : c.loop-input.input ≡ 100 = omega (arith, c.loop-input-test.false, c.loop-input.auto.input-end) in c.loop-input.invariant ∙ ap (λ z. with_inputs z (string_bytes c.args.text.now)) e
