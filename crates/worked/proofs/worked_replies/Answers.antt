use Rattle.worked.proofs.Examples.{replies}
use Rattle.worked.proofs.worked_replies.Goals as goal

pub returns : goal.returns
returns c = replies
