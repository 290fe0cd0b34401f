-- What edges and replies mean in a Boolean algebra, and what is asked of every rule set.
-- It is said for every Boolean algebra and every value of the children, so that no special case can make it true.
use Rattle.std.specs.Prelude.{◌≡◌, ℕ, ◌+◌, ◌<◌, Some, if◌then◌else◌}
use Rattle.values.specs.Algebra.{BooleanAlgebra}
use Rattle.rules.specs.declared.edge.Edge.{Edge}
use Rattle.rules.specs.declared.pair.Pair.{Pair}
use Rattle.rules.specs.declared.window.Operand.{Operand}
use Rattle.rules.specs.declared.window.Window.{Window}
use Rattle.rules.specs.declared.window.Reply.{Reply}
use Rattle.rules.specs.declared.window.Reply.TheVariants as reply
use Rattle.rules.specs.Edges.{false_edge, node, complemented, complement}
use Rattle.rules.specs.Pairs.{weight}
use Rattle.rules.specs.Table.{Child}

-- what an edge means where val gives each node's value
unfoldable pub means : {V : Type 0} → BooleanAlgebra V → (ℕ → V) → Edge → V
means k val e = if complemented e then k.not (val (node e)) else val (node e)

abbrev pub pair_means : {V : Type 0} → BooleanAlgebra V → (ℕ → V) → Pair → V
pair_means k val p = k.and (means k val p.larger) (means k val p.smaller)

-- the operand's node has the AND of its children, where they are in the window
abbrev pub Follows : {V : Type 0} → BooleanAlgebra V → (ℕ → V) → Operand → Type 0
Follows k val o = (p : Pair) → o.children ≡ Some p → val (node o.edge) ≡ pair_means k val p

-- the window's nodes are valued as a graph's nodes are
pub record Valued {V : Type 0} (k : BooleanAlgebra V) (val : ℕ → V) (w : Window) : Type 0 where
  pub constant : val 0 ≡ k.bottom
  pub larger : Follows k val w.larger
  pub smaller : Follows k val w.smaller

-- the reply means the AND of x and y
abbrev pub Means : {V : Type 0} → BooleanAlgebra V → (ℕ → V) → Edge → Edge → Reply → Type 0
Means k val x y (reply.Edge e) = means k val e ≡ k.and (means k val x) (means k val y)
Means k val x y (reply.Pair p) = pair_means k val p ≡ k.and (means k val x) (means k val y)
Means k val x y reply.Store = Unit {0}

-- in every Boolean algebra, however the window's nodes are valued, the reply means the pair's AND
abbrev pub Sound : (Window → Reply) → Type 1
Sound f = (V : Type 0) (k : BooleanAlgebra V) (val : ℕ → V) (w : Window) → Valued k val w → Means k val w.larger.edge w.smaller.edge (f w)

-- an edge of the window
pub data InWindow (w : Window) : Edge → Type 0 where
  larger : InWindow w w.larger.edge
  smaller : InWindow w w.smaller.edge
  below_larger : {a b : Edge} → Child w.larger a b → InWindow w a
  below_smaller : {a b : Edge} → Child w.smaller a b → InWindow w a

-- false, an edge of the window, or the complement of one
pub data Known (w : Window) : Edge → Type 0 where
  constant : Known w false_edge
  plain : {e : Edge} → InWindow w e → Known w e
  flipped : {e : Edge} → InWindow w e → Known w (complement e)

abbrev pub Each : (Edge → Type 0) → Reply → Type 0
Each P (reply.Edge e) = P e
Each P (reply.Pair p) = P p.larger × P p.smaller
Each P reply.Store = Unit {0}

-- every edge in a reply is known from the window
abbrev pub Local : (Window → Reply) → Type 0
Local f = (w : Window) → Each (Known w) (f w)

-- each child has a smaller node number than its parent
abbrev pub Above : Operand → Type 0
Above o = (a b : Edge) → Child o a b → node a < node o.edge

-- a pair in the reply has node numbers of a smaller sum
abbrev pub Lighter : ℕ → Reply → Type 0
Lighter n (reply.Edge e) = Unit {0}
Lighter n (reply.Pair p) = weight p < n
Lighter n reply.Store = Unit {0}

-- rewritings fall, so that a pair is rewritten only finitely often
abbrev pub Falls : (Window → Reply) → Type 0
Falls f = (w : Window) → Above w.larger → Above w.smaller → Lighter (node w.larger.edge + node w.smaller.edge) (f w)
