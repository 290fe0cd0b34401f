use Rattle.std.proofs.Common.{rules, ℕ, eqb}
use Rattle.std.proofs.lemmas.Iterator.Consumers.{map_from_collect}
use Rattle.std.proofs.lemmas.Iterator.Splits.{YieldsList-from_slice_split}
use Rattle.request_lines.proofs.lines.between.Goals as goal

pub returns : goal.returns
returns c =
    let e = c.split.ensures in
    map_from_collect _ c.collect.ensures.ran (YieldsList-from_slice_split _ (λ (b : ℕ). eqb b 10) c.args.text.now e.rest e.done e.closure (λ x b q k. search rules))
