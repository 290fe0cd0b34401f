-- Pairs of edges, the larger first.
-- That the larger edge comes first is part of the type.
use Rattle.std.specs.Prelude.{ℕ, ◌+◌, min, max, Bool, ◌||◌, Some, None, Option, if◌then◌else◌}
use Rattle.std.proofs.Common.{arith}
use Rattle.rules.specs.declared.edge.Edge.{Edge}
use Rattle.rules.specs.declared.pair.Pair.{Pair}
use Rattle.rules.specs.Edges.{edge, node, same}

-- the pair of two edges, in either order
abbrev pub pair_of : Edge → Edge → Pair
pair_of x y = record { larger = edge (max x.0 y.0); smaller = edge (min x.0 y.0); sorted = omega arith }

-- the sum of the two node numbers
abbrev pub weight : Pair → ℕ
weight p = node p.larger + node p.smaller

abbrev pub has : Pair → Edge → Bool
has p e = same p.larger e || same p.smaller e

-- the other edge, where e is one of the two
abbrev pub other : Pair → Edge → Option Edge
other p e = if same p.larger e then Some p.smaller else (if same p.smaller e then Some p.larger else None)
