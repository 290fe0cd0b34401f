use Rattle.aiger_read.proofs.OneReading.{one_reading}
use Rattle.aiger_read.proofs.theorems.one_reading.Goals as goal

pub returns : goal.returns
returns g c r = one_reading (g.R.RuleSet.replies r)
