use Rattle.history_model.proofs.Law.{law}
use Rattle.history_model.proofs.theorems.histories_keep_the_law.Goals as goal

pub returns-clause-laws : goal.returns-clause-laws
returns-clause-laws g c = λ r. law g.V.Value.algebra g.W.Value.algebra (g.R.RuleSet.replies r) (g.R.RuleSet.lawful r)
