use Rattle.std.proofs.Common.{rules, ◌≡◌, ap, ◌∙◌}
use Rattle.history_model.specs.declared.request.Answer.TheVariants as answer
use Rattle.history_model.specs.declared.request.NodeValues.TheVariants as values
use Rattle.history_model.specs.declared.request.Request.TheVariants.{Evaluate}
use Rattle.history_model.specs.Histories.{told, by_bits, by_blocks, by_tables, by_others}
use Rattle.history.proofs.Running.{calculated_as, made_to}
use Rattle.history.proofs.session.Session.evaluate.Goals as goal

pub returns-in-Bits : goal.returns-in-Bits
returns-in-Bits g c = made_to c.evaluate_in.result
    (λ a h os.
    let n : h.2 ≡ values.Bits h.1 = search rules in
    calculated_as (ap (λ z. Evaluate z c.args.places) c.in-Bits.is) (ap told (h.5 ∙ ap (answer.Evaluate h.0) n)) (by_bits h.3)) c.evaluate_in.ensures

pub returns-in-Blocks : goal.returns-in-Blocks
returns-in-Blocks g c = made_to c.evaluate_in-in-Blocks.result
    (λ a h os.
    let n : h.2 ≡ values.Blocks h.1 = search rules in
    calculated_as (ap (λ z. Evaluate z c.args.places) c.in-Blocks.is) (ap told (h.5 ∙ ap (answer.Evaluate h.0) n)) (by_blocks h.3)) c.evaluate_in-in-Blocks.ensures

pub returns-in-Tables : goal.returns-in-Tables
returns-in-Tables g c = made_to c.evaluate_in-in-Tables.result
    (λ a h os.
    let n : h.2 ≡ values.Tables h.1 = search rules in
    calculated_as (ap (λ z. Evaluate z c.args.places) c.in-Tables.is) (ap told (h.5 ∙ ap (answer.Evaluate h.0) n)) (by_tables h.3)) c.evaluate_in-in-Tables.ensures

pub returns-in-Others : goal.returns-in-Others
returns-in-Others g c = made_to c.evaluate_in-in-Others.result
    (λ a h os.
    let n : h.2 ≡ values.Others h.1 = search rules in
    calculated_as (ap (λ z. Evaluate z c.args.places) c.in-Others.is) (ap told (h.5 ∙ ap (answer.Evaluate h.0) n)) (by_others h.3)) c.evaluate_in-in-Others.ensures
