use Rattle.aiger_read.proofs.Happens as happens
use Rattle.aiger_read.proofs.theorems.files_mean.Goals as goal

pub returns : goal.returns
returns g c r = happens.files_mean g.V.Value.algebra (g.R.RuleSet.replies r) (g.R.RuleSet.lawful r)
