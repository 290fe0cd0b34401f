use Rattle.std.proofs.Common.{[], ◌∷◌, ◌++◌, ap, ◌∙◌}
use Rattle.history_model.specs.Histories.{told, read}
use Rattle.reduction.proofs.Popped.{more_told}
use Rattle.reduction.proofs.reduce.take_apart.Goals as goal

pub returns : goal.returns
returns g c =
    let w = c.in-Some-Write in
    let before = read c.only_read-added.result.0 c.only_read-added.ensures.0 c.only_read-added.result.1.items ∷ [] in
    (c.only_read-added.ensures.0, more_told told c.args.answers.items c.pop.new.self.items w.field-0 before w.ensures.items c.only_read-added.ensures.1 ∙ ap (λ a. before ++ (told a ∷ [])) w.field-0-is)
