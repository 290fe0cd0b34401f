use Rattle.reduction.proofs.Once as once
use Rattle.reduction.proofs.theorems.one_reduction.Goals as goal

pub returns : goal.returns
returns g c r = once.one_reduction (g.R.RuleSet.replies r)
