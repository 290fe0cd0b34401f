-- What is asked of every rule set.
-- Its three parts say nothing of rules, and are proved of every list of them.
use Rattle.rules.specs.declared.window.Window.{Window}
use Rattle.rules.specs.declared.window.Reply.{Reply}
use Rattle.rules.specs.Meaning.{Sound, Local, Falls}

pub record Lawful (replies : Window → Reply) : Type 1 where
  pub sound : Sound replies
  pub local : Local replies
  pub falls : Falls replies
