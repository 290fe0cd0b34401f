use Rattle.aiger_read.proofs.Trips.{round_trips, writes_back}
use Rattle.aiger_read.proofs.theorems.round_trips.Goals as goal

pub returns : goal.returns
returns g c = record {
  text = λ r. round_trips (g.R.RuleSet.replies r) (g.R.RuleSet.lawful r);
  calls = λ r. writes_back (g.R.RuleSet.replies r) (g.R.RuleSet.lawful r);
}
