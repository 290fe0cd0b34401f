use Rattle.std.proofs.Common.{◌≡◌, refl, ap, ◌∙◌, arith}
use Rattle.std.specs.Prelude.{string_bytes}
use Rattle.workloads.specs.Circuits.{draft, with_outputs}
use Rattle.workloads.proofs.Drafts.{more_outputs}
use Rattle.workloads.proofs.circuit.put_outputs.Goals as goal

pub loop-output-init : goal.loop-output-init
unfolding with_outputs
loop-output-init c = refl

pub loop-output-preserved : goal.loop-output-preserved
loop-output-preserved c =
    more_outputs c.args.literals c.loop-output._output (draft c.args.text.now c.args.random.now) (string_bytes c.loop-output.text) (string_bytes c.writeln.new.self) c.loop-output.random.state c.below-literal.new.self.state c.below-literal.result c.loop-output.invariant c.in_ok-writeln.ensures.bytes
    c.below-literal.ensures.answer c.below-literal.ensures.state

pub returns : goal.returns
returns c =
    let e : c.loop-output._output ≡ 100 = omega (arith, c.loop-output-test.false, c.loop-output.auto._output-end) in
    c.loop-output.invariant ∙ ap (λ z. with_outputs c.args.literals z (draft c.args.text.now c.args.random.now)) e
