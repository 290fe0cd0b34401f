use Rattle.std.proofs.Common.{sym, ap, ◌∙◌}
use Rattle.stores.specs.Left.{left}
use Rattle.reduction.proofs.Lists.{pairs_decided}
use Rattle.reduction.proofs.Compared.{eq_decides}
use Rattle.reduction.proofs.compare.same_pairs.Goals as goal

pub returns-then-size : goal.returns-then-size
returns-then-size g c =
    let ran = c.eq.ensures.ran in
    let m = g.S.NodeStore.model in
    let d = eq_decides (left m) _ pairs_decided c.pairs.result ran.0 ran.1 ran.2 ran.3 ran.4 ran.5 ran.6 c.eq.result ran.8 ran.9 ran.10 ran.11 in
    let first = c.pairs.ensures in
    let second = ap (left m) ran.7 ∙ c.pairs-then-size.ensures in
    ((λ e. sym first ∙ d.0 e ∙ second), λ e. d.1 (first ∙ e ∙ sym second))
