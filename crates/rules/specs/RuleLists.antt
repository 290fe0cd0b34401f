-- What a list of rules replies to a window: the first rule that fits decides.
-- The same stands as a relation in Table.antt, and `first_match` promises both.
use Rattle.std.specs.Prelude.{List, [], ◌∷◌, Option}
use Rattle.std.specs.Option.{option_or, unwrap_or}
use Rattle.rules.specs.declared.window.Window.{Window}
use Rattle.rules.specs.declared.window.Reply.{Reply}
use Rattle.rules.specs.declared.window.Reply.TheVariants as reply
use Rattle.rules.specs.declared.rule.Rule.{Rule}
use Rattle.rules.specs.Rules.{rule_reply}

-- a rule is tried with u the larger edge and v the smaller, then exchanged
abbrev pub tried : Rule → Window → Option Reply
tried rule w = option_or (rule_reply rule w.larger w.smaller) (rule_reply rule w.smaller w.larger)

abbrev pub by_rules : List Rule → Window → Reply
by_rules [] w = reply.Store
by_rules (rule ∷ rules) w = unwrap_or (tried rule w) (by_rules rules w)
