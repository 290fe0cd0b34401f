use Rattle.reduction.proofs.Once as once
use Rattle.reduction.proofs.theorems.large_by_length.Goals as goal

pub returns : goal.returns
returns g c r = once.large_by_length (g.R.RuleSet.replies r)
