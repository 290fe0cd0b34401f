use Rattle.worked.proofs.Examples.{values}
use Rattle.worked.proofs.worked_values.Goals as goal

pub returns : goal.returns
returns c = values
