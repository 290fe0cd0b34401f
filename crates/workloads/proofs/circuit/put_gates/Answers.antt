use Rattle.std.proofs.Common.{◌≡◌, ◌+◌, ◌*◌, refl, ap, ◌∙◌, arith}
use Rattle.std.specs.Prelude.{string_bytes}
use Rattle.workloads.specs.Circuits.{draft, with_gates}
use Rattle.workloads.proofs.Drafts.{more_gates}
use Rattle.workloads.proofs.circuit.put_gates.Goals as goal

pub loop-gate-init : goal.loop-gate-init
unfolding with_gates
loop-gate-init c = refl

pub loop-gate-preserved : goal.loop-gate-preserved
loop-gate-preserved c =
    more_gates c.loop-gate.gate (2 * (101 + c.loop-gate.gate)) (draft c.args.text.now c.args.random.now) (string_bytes c.loop-gate.text) (string_bytes c.writeln.new.self) c.loop-gate.random.state c.below-first.new.self.state c.below-second.new.self.state c.below-first.result c.below-second.result c.loop-gate.invariant
    (omega arith) c.in_ok-writeln.ensures.bytes c.below-first.ensures.answer c.below-first.ensures.state c.below-second.ensures.answer c.below-second.ensures.state

pub returns : goal.returns
returns c =
    let e : c.loop-gate.gate ≡ c.args.gates = omega (arith, c.loop-gate-test.false, c.loop-gate.auto.gate-end) in
    c.loop-gate.invariant ∙ ap (λ z. with_gates z (draft c.args.text.now c.args.random.now)) e
