-- The rule table as a relation: which reply a rule gives to the operands u and v, and which rule of a list is chosen for a window.
-- `Decided` says that the relation leaves one reply, and it is proved to be that of Rules.antt.
use Rattle.std.specs.Prelude.{◌≡◌, true, false, List, [], ◌∷◌, Some}
use Rattle.rules.specs.declared.edge.Edge.{Edge}
use Rattle.rules.specs.declared.pair.Pair.{Pair}
use Rattle.rules.specs.declared.window.Operand.{Operand}
use Rattle.rules.specs.declared.window.Window.{Window}
use Rattle.rules.specs.declared.window.Reply.{Reply}
use Rattle.rules.specs.declared.window.Reply.TheVariants as reply
use Rattle.rules.specs.declared.rule.Rule.{Rule}
use Rattle.rules.specs.declared.rule.Rule.TheVariants.{Contradiction, SharedContradiction, Subsumption, SharedSubsumption, Idempotence, Resolution, Substitution, SharedSubstitution, SharedIdempotence}
use Rattle.rules.specs.Edges.{false_edge, complemented, complement}
use Rattle.rules.specs.Pairs.{pair_of}

-- a child of the operand's AND node, and the other one
pub data Child (o : Operand) : Edge → Edge → Type 0 where
  larger : {p : Pair} → o.children ≡ Some p → Child o p.larger p.smaller
  smaller : {p : Pair} → o.children ≡ Some p → Child o p.smaller p.larger

-- a common child of u and v, then the other child of u, then that of v; where both children of u are common, the larger
pub data Common (u v : Operand) : Edge → Edge → Edge → Type 0 where
  larger : {p : Pair} {b : Edge} → u.children ≡ Some p → Child v p.larger b → Common u v p.larger p.smaller b
  smaller : {p : Pair} {b : Edge} → u.children ≡ Some p → ((d : Edge) → Child v p.larger d → ⊥) → Child v p.smaller b → Common u v p.smaller p.larger b

abbrev pub Plain : Operand → Type 0
Plain o = complemented o.edge ≡ false

abbrev pub Complemented : Operand → Type 0
Complemented o = complemented o.edge ≡ true

pub data Gives (u v : Operand) : Rule → Reply → Type 0 where
  -- u a plain AND edge, v the complement of a child of u: false
  contradiction : {c d : Edge} → Plain u → Child u c d → v.edge ≡ complement c → Gives u v Contradiction (reply.Edge false_edge)
  -- u, v plain AND edges, a child of u the complement of a child of v: false
  shared_contradiction : {a b c d : Edge} → Plain u → Plain v → Child u a b → Child v c d → a ≡ complement c → Gives u v SharedContradiction (reply.Edge false_edge)
  -- u a complemented AND edge, v the complement of a child of u: v
  subsumption : {c d : Edge} → Complemented u → Child u c d → v.edge ≡ complement c → Gives u v Subsumption (reply.Edge v.edge)
  -- u a complemented, v a plain AND edge, a child of u the complement of a child of v: v
  shared_subsumption : {a b c d : Edge} → Complemented u → Plain v → Child u a b → Child v c d → a ≡ complement c → Gives u v SharedSubsumption (reply.Edge v.edge)
  -- u a plain AND edge, v a child of u: u
  idempotence : {c d : Edge} → Plain u → Child u c d → v.edge ≡ c → Gives u v Idempotence (reply.Edge u.edge)
  -- u, v complemented AND edges with a common child s, the other two children complements: NOT s
  resolution : {s a b : Edge} → Complemented u → Complemented v → Child u s a → Child v s b → b ≡ complement a → Gives u v Resolution (reply.Edge (complement s))
  -- u a complemented AND edge, v a child of u, w the other child: NOT w, v
  substitution : {c w : Edge} → Complemented u → Child u c w → v.edge ≡ c → Gives u v Substitution (reply.Pair (pair_of (complement w) v.edge))
  -- u a complemented, v a plain AND edge with a common child, w the other child of u: NOT w, v
  shared_substitution : {c w d : Edge} → Complemented u → Plain v → Common u v c w d → Gives u v SharedSubstitution (reply.Pair (pair_of (complement w) v.edge))
  -- u, v plain AND edges with a common child, w the other child of v: u, w
  shared_idempotence : {c d w : Edge} → Plain u → Plain v → Common u v c d w → Gives u v SharedIdempotence (reply.Pair (pair_of u.edge w))

-- the rule gives no reply to u and v in this order
abbrev pub Unfit : Operand → Operand → Rule → Type 0
Unfit u v rule = (r : Reply) → Gives u v rule r → ⊥

-- the first rule of the list that fits gives the reply, with u the larger edge where it fits so
pub data Chosen (w : Window) : List Rule → Reply → Type 0 where
  straight : {rule : Rule} {rules : List Rule} {r : Reply} → Gives w.larger w.smaller rule r → Chosen w (rule ∷ rules) r
  exchanged : {rule : Rule} {rules : List Rule} {r : Reply} → Unfit w.larger w.smaller rule → Gives w.smaller w.larger rule r → Chosen w (rule ∷ rules) r
  later : {rule : Rule} {rules : List Rule} {r : Reply} → Unfit w.larger w.smaller rule → Unfit w.smaller w.larger rule → Chosen w rules r → Chosen w (rule ∷ rules) r
  none : Chosen w [] reply.Store

-- the one reply that the table allows
pub record Decided (rules : List Rule) (w : Window) (r : Reply) : Type 0 where
  pub chosen : Chosen w rules r
  pub only : (s : Reply) → Chosen w rules s → s ≡ r
