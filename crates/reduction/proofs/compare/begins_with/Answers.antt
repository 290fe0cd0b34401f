use Rattle.std.proofs.Common.{rules}
use Rattle.reduction.proofs.Lists.{begins}
use Rattle.reduction.proofs.compare.begins_with.Goals as goal

pub returns : goal.returns
returns c = begins (λ a b. search rules) _ _ _ c.starts_with.ensures.value
