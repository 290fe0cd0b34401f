use Rattle.aiger_read.proofs.Again as again
use Rattle.aiger_read.proofs.theorems.files_repeat.Goals as goal

pub returns : goal.returns
returns g c r = again.files_repeat (g.R.RuleSet.replies r) (g.R.RuleSet.lawful r)
