use Rattle.std.proofs.Common.{[], ◌∷◌, ap, ◌∙◌}
use Rattle.history_model.specs.Histories.{told}
use Rattle.reduction.proofs.Popped.{only_told}
use Rattle.reduction.proofs.reduce.only_read.Goals as goal

pub returns : goal.returns
returns g c =
    let r = c.in-Some-Read in
    (r.field-0-1.items, only_told told c.args.answers.items c.pop.new.self.items r.field-0 _ r.ensures.items c.requires.3 ∙ ap (λ a. told a ∷ []) r.field-0-is)
