-- What a rule sees below the operands of a window.
-- Where `related` is false no rule fits: this is proved, so that a wrong `related` would not be.
use Rattle.std.specs.Prelude.{ℕ, Bool, false, ◌||◌, Some, None, Option, ◌==◌, if◌then◌else◌}
use Rattle.rules.specs.declared.edge.Edge.{Edge}
use Rattle.rules.specs.declared.pair.Pair.{Pair}
use Rattle.rules.specs.declared.window.Operand.{Operand}
use Rattle.rules.specs.declared.window.Window.{Window}
use Rattle.rules.specs.Edges.{node, complemented}

-- the children of a plain AND edge
abbrev pub plain_children : Operand → Option Pair
plain_children o = if complemented o.edge then None else o.children

-- the children of a complemented AND edge
abbrev pub complemented_children : Operand → Option Pair
complemented_children o = if complemented o.edge then o.children else None

abbrev pub has_node : Option Pair → ℕ → Bool
has_node None n = false
has_node (Some p) n = node p.larger == n || node p.smaller == n

-- the node of the edge is a child of the operand
abbrev pub below : Operand → Edge → Bool
below o e = has_node o.children (node e)

abbrev pub any_below : Operand → Option Pair → Bool
any_below o None = false
any_below o (Some p) = below o p.larger || below o p.smaller

-- the node of one operand is a child of the other, or a node is a child of both
abbrev pub related : Window → Bool
related w = (below w.larger w.smaller.edge || below w.smaller w.larger.edge) || any_below w.larger w.smaller.children
