use Rattle.std.proofs.Common.{◌+◌, ◌*◌, ap, ◌∙◌, ap₂}
use Rattle.workloads.specs.Circuits.{Draft, with_inputs, with_outputs, with_gates, text_of_gates}
use Rattle.workloads.proofs.circuit.circuit.Goals as goal

pub returns : goal.returns
returns c =
    let g = c.min-gates.result in
    let texts = c.in_ok-put_inputs.ensures ∙ ap (with_inputs 100) c.in_ok-text.ensures.ok in
    let outputs = c.in_ok-put_outputs.ensures ∙ ap₂ (λ t x. with_outputs (2 * (100 + g) + 2) 100 (record { text = t; state = x })) texts c.new-random.ensures in
    ap (λ (z : Draft). z.text) (c.in_ok-put_gates.ensures ∙ ap (with_gates g) outputs) ∙ ap text_of_gates c.min-gates.ensures
