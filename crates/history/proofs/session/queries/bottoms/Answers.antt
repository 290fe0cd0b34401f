use Rattle.std.proofs.Common.{rules, ℕ, refl, ◌∙◌, arith}
use Rattle.std.proofs.lemmas.Iterator.{YieldsList-from_range, YieldsList-from_map, items_from_collect}
use Rattle.std.proofs.lemmas.Iterator.Consumers.{YieldsList-at}
use Rattle.history.proofs.Lists.{range_map}
use Rattle.history.proofs.Running.{made_to}
use Rattle.history.proofs.session.queries.bottoms.Goals as goal

pub returns : goal.returns
returns g c =
    let n = c.args.places in
    let b = g.K.Value.algebra.bottom in
    made_to c.collect.result (λ v e. e ∙ range_map 0 n b)
    (items_from_collect _ c.collect.ensures.ran (YieldsList-from_map _ (λ (i : ℕ). b) (YieldsList-at c.map.ensures.source (YieldsList-from_range 0 n n refl (omega arith))) c.map.ensures.closure (λ x r q k. search rules)))
