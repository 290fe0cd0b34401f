-- The text of a circuit, as it is written.
-- The items are those that the check of files reads: a written text is read back as the same graph.
use Rattle.std.specs.Prelude.{ℕ, zero, suc, ◌+◌, ◌*◌, List, [], ◌∷◌, ◌++◌, map, length, codes, decimal}
use Rattle.std.specs.List.{flat_map}
use Rattle.rules.specs.declared.edge.Edge.{Edge}
use Rattle.rules.specs.declared.pair.Pair.{Pair}
use Rattle.aiger_lines.specs.declared.fields.Header.{Header}
use Rattle.aiger_check.specs.Circuits.{Item, input, output, gate, numbers}

-- numbers with a space between them, and the line's end
unfoldable pub line_text : List ℕ → List ℕ
line_text [] = []
line_text (v ∷ []) = decimal v ++ (10 ∷ [])
line_text (v ∷ w ∷ vs) = decimal v ++ (32 ∷ line_text (w ∷ vs))

abbrev pub item_text : Item → List ℕ
item_text i = line_text (numbers i)

abbrev pub header_text : Header → List ℕ
header_text h = codes "aag " ++ line_text (h.max ∷ h.inputs ∷ h.latches ∷ h.outputs ∷ h.ands ∷ [])

abbrev pub text : Header → List Item → List ℕ
text h is = header_text h ++ flat_map item_text is

-- the lines of a graph, in which node p has variable p: n inputs after the first j
abbrev pub inputs_of : ℕ → ℕ → List Item
inputs_of j zero = []
inputs_of j (suc n) = input (2 * (j + 1)) ∷ inputs_of (j + 1) n

abbrev pub outputs_of : List Edge → List Item
outputs_of os = map (λ e. output e.0) os

-- the stored pairs from node p on, the larger edge first
abbrev pub gates_of : ℕ → List Pair → List Item
gates_of p [] = []
gates_of p (x ∷ xs) = gate (2 * p) x.larger.0 x.smaller.0 ∷ gates_of (p + 1) xs

unfoldable pub items : ℕ → List Pair → List Edge → List Item
items n pairs os = inputs_of 0 n ++ (outputs_of os ++ gates_of (n + 1) pairs)

abbrev pub header_of : ℕ → List Pair → List Edge → Header
header_of n pairs os = record { max = n + length pairs; inputs = n; latches = 0; outputs = length os; ands = length pairs }
