use Rattle.history_model.proofs.Worked.{worked}
use Rattle.history_model.proofs.theorems.worked_history.Goals as goal

pub returns : goal.returns
returns c = worked
