use Rattle.std.proofs.Common.{◌≤◌, length, Ok, sym, ap, ◌∙◌, arith}
use Rattle.graph.specs.States.{state}
use Rattle.aiger_write.specs.Writing.{text_of}
use Rattle.aiger_write.proofs.Puts.{put_front}
use Rattle.aiger_write.proofs.Whole.{writes_many, writes_outside, writes_long, writes, leaves}
use Rattle.aiger_write.proofs.write.write_circuit.Goals as goal
use Rattle.aiger_write.proofs.write.write_circuit.Goals.{else-text-most-via-then-text-most+else-put_circuit-text, else-text-most-via-else-text-most}

pub returns-then-outputs-gt-MOST_OUTPUTS : goal.returns-then-outputs-gt-MOST_OUTPUTS
returns-then-outputs-gt-MOST_OUTPUTS g c =
    let s = state c.args.graph.now in
    let many = writes_many s c.args.outputs.now c.args.text.now c.if-outputs-gt-MOST_OUTPUTS.true in
    record { answer = sym many; text = leaves s c.args.outputs.now c.args.text.now many }

pub returns-then-not-are_inside : goal.returns-then-not-are_inside
returns-then-not-are_inside g c =
    let s = state c.args.graph.now in
    let out = writes_outside s c.args.outputs.now c.args.text.now c.if-outputs-gt-MOST_OUTPUTS.false (sym c.are_inside.ensures ∙ c.if-not-are_inside.true) in
    record { answer = sym out; text = leaves s c.args.outputs.now c.args.text.now out }

pub returns-then-put_circuit-text : goal.returns-then-put_circuit-text
returns-then-put_circuit-text g c =
    let s = state c.args.graph.now in
    let long = writes_long s c.args.outputs.now c.args.text.now c.if-outputs-gt-MOST_OUTPUTS.false (sym c.are_inside.ensures ∙ c.if-not-are_inside.false) (omega (arith, c.put_circuit.ensures.answer, c.if-put_circuit-text.true)) in
    record { answer = sym long; text = leaves s c.args.outputs.now c.args.text.now long }

pub returns : goal.returns
returns g c =
    let s = state c.args.graph.now in
    let os = c.args.outputs.now in
    let room : length (text_of s os) ≤ length c.args.text.now = elim c.else-text-most.branch [
      | else-text-most-via-then-text-most+else-put_circuit-text w ↦ omega (arith, w.put_circuit.ensures.answer, w.if-put_circuit-text.false)
      | else-text-most-via-else-text-most w ↦ omega (arith, w.if-text-most.false, c.put_circuit-2.ensures.answer, c.put_circuit-2.ensures.limit, c.inputs.ensures.answer, c.size.ensures.answer)
    ] in
    let fine = writes s os c.args.text.now c.if-outputs-gt-MOST_OUTPUTS.false (sym c.are_inside.ensures ∙ c.if-not-are_inside.false) room in
    record {
      answer = ap Ok c.put_circuit-2.ensures.answer ∙ sym fine;
      text = c.put_circuit-2.ensures.text ∙ put_front (text_of s os) c.args.text.now room ∙ leaves s os c.args.text.now fine;
    }
