-- What each rule replies to the operands u and v, in this order.
-- The same stands as a relation in Table.antt, with each rule in words; that each reply means the AND is proved, and worked requests try the rules.
use Rattle.std.specs.Prelude.{Bool, ◌||◌, Some, None, Option}
use Rattle.std.specs.Option.{option_or}
use Rattle.std.specs.Bool.{then_some}
use Rattle.rules.specs.declared.edge.Edge.{Edge}
use Rattle.rules.specs.declared.pair.Pair.{Pair}
use Rattle.rules.specs.declared.window.Operand.{Operand}
use Rattle.rules.specs.declared.window.Reply.{Reply}
use Rattle.rules.specs.declared.window.Reply.TheVariants as reply
use Rattle.rules.specs.declared.rule.Rule.{Rule}
use Rattle.rules.specs.declared.rule.Rule.TheVariants.{Contradiction, SharedContradiction, Subsumption, SharedSubsumption, Idempotence, Resolution, Substitution, SharedSubstitution, SharedIdempotence}
use Rattle.rules.specs.Edges.{false_edge, complement, same}
use Rattle.rules.specs.Pairs.{has, other, pair_of}
use Rattle.rules.specs.Windows.{plain_children, complemented_children}

abbrev pub given : {A B : Type 0} → Option A → (A → Option B) → Option B
given None f = None
given (Some a) f = f a

-- an edge of the first pair is the complement of one of the second
abbrev pub clash : Pair → Pair → Bool
clash c d = has d (complement c.larger) || has d (complement c.smaller)

abbrev pub to_edge : Edge → Reply
to_edge e = reply.Edge e

abbrev pub to_pair : Edge → Edge → Reply
to_pair x y = reply.Pair (pair_of x y)

abbrev pub contradiction : Operand → Operand → Option Reply
contradiction u v = given (plain_children u) (λ c. then_some (has c (complement v.edge)) (to_edge false_edge))

abbrev pub shared_contradiction : Operand → Operand → Option Reply
shared_contradiction u v = given (plain_children u) (λ c. given (plain_children v) (λ d. then_some (clash c d) (to_edge false_edge)))

abbrev pub subsumption : Operand → Operand → Option Reply
subsumption u v = given (complemented_children u) (λ c. then_some (has c (complement v.edge)) (to_edge v.edge))

abbrev pub shared_subsumption : Operand → Operand → Option Reply
shared_subsumption u v = given (complemented_children u) (λ c. given (plain_children v) (λ d. then_some (clash c d) (to_edge v.edge)))

abbrev pub idempotence : Operand → Operand → Option Reply
idempotence u v = given (plain_children u) (λ c. then_some (has c v.edge) (to_edge u.edge))

-- resolution on the child s of u, whose other child is a
abbrev pub resolve : Edge → Edge → Pair → Option Reply
resolve s a d = given (other d s) (λ b. then_some (same b (complement a)) (to_edge (complement s)))

abbrev pub resolution : Operand → Operand → Option Reply
resolution u v = given (complemented_children u) (λ c. given (complemented_children v) (λ d.
    option_or (resolve c.larger c.smaller d) (resolve c.smaller c.larger d)))

abbrev pub substitution : Operand → Operand → Option Reply
substitution u v = given (complemented_children u) (λ c. given (other c v.edge) (λ w. Some (to_pair (complement w) v.edge)))

-- the edge of the first pair that is in the second too; where both are, the larger
abbrev pub common : Pair → Pair → Option Edge
common c d = option_or (then_some (has d c.larger) c.larger) (then_some (has d c.smaller) c.smaller)

abbrev pub shared_substitution : Operand → Operand → Option Reply
shared_substitution u v = given (complemented_children u) (λ c. given (plain_children v) (λ d.
    option_or (then_some (has d c.larger) (to_pair (complement c.smaller) v.edge))
    (then_some (has d c.smaller) (to_pair (complement c.larger) v.edge))))

abbrev pub shared_idempotence : Operand → Operand → Option Reply
shared_idempotence u v = given (plain_children u) (λ c. given (plain_children v) (λ d.
    given (option_or (other d c.larger) (other d c.smaller)) (λ w. Some (to_pair u.edge w))))

abbrev pub rule_reply : Rule → Operand → Operand → Option Reply
rule_reply Contradiction u v = contradiction u v
rule_reply SharedContradiction u v = shared_contradiction u v
rule_reply Subsumption u v = subsumption u v
rule_reply SharedSubsumption u v = shared_subsumption u v
rule_reply Idempotence u v = idempotence u v
rule_reply Resolution u v = resolution u v
rule_reply Substitution u v = substitution u v
rule_reply SharedSubstitution u v = shared_substitution u v
rule_reply SharedIdempotence u v = shared_idempotence u v
