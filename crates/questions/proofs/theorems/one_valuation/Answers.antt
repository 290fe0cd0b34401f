use Rattle.questions.proofs.Valuations.{one_valuation}
use Rattle.questions.proofs.theorems.one_valuation.Goals as goal

pub returns : goal.returns
returns g c = λ r. one_valuation g.V.Value.algebra (g.R.RuleSet.replies r)
