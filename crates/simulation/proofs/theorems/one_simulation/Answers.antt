use Rattle.simulation.proofs.Once as once
use Rattle.simulation.proofs.theorems.one_simulation.Goals as goal

pub returns : goal.returns
returns g c r = once.one_simulation (g.R.RuleSet.replies r)
