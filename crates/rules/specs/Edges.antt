-- Edges: a node's number, and whether the edge is complemented.
-- Numbers as circuit files write literals: half of one is its variable, and the odd ones are complements.
use Rattle.std.specs.Prelude.{ℕ, ◌+◌, ◌-◌, ◌*◌, ◌/◌, ◌%◌, Bool, ◌==◌, if◌then◌else◌}
use Rattle.rules.specs.declared.edge.Edge.{Edge}

abbrev pub edge : ℕ → Edge
edge n = record { 0 = n }

abbrev pub false_edge : Edge
false_edge = edge 0

abbrev pub true_edge : Edge
true_edge = edge 1

-- stands where no edge is known
abbrev pub undefined_edge : Edge
undefined_edge = edge 4294967295

-- the plain edge of a node
abbrev pub plain : ℕ → Edge
plain n = edge (2 * n)

abbrev pub node : Edge → ℕ
node e = e.0 / 2

abbrev pub complemented : Edge → Bool
complemented e = e.0 % 2 == 1

abbrev pub complement : Edge → Edge
complement e = edge (if complemented e then e.0 - 1 else e.0 + 1)

abbrev pub same : Edge → Edge → Bool
same a b = a.0 == b.0
