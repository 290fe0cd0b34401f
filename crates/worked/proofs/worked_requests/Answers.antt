use Rattle.worked.proofs.Examples.{worked}
use Rattle.worked.proofs.worked_requests.Goals as goal

pub returns : goal.returns
returns c = worked
