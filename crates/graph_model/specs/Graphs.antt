-- A graph by what its store holds, and what its edges mean under an assignment of values to the inputs.
-- A node's value is false, an input's or the AND of a pair's edges, and there is no choice in it (`one_valuation`).
use Rattle.std.specs.Prelude.{ℕ, ◌+◌, ◌<◌, List, [], ◌∷◌, ◌++◌, map, length, slice_index_or}
use Rattle.std.specs.List.{range_with_len}
use Rattle.values.specs.Algebra.{BooleanAlgebra}
use Rattle.rules.specs.declared.edge.Edge.{Edge}
use Rattle.rules.specs.declared.pair.Pair.{Pair}
use Rattle.rules.specs.Edges.{node}
use Rattle.rules.specs.Meaning.{means, pair_means}

-- node 0 is the constant false, nodes 1 to `inputs` are the inputs, and the pairs' nodes follow
pub record State : Type 0 where
  pub inputs : ℕ
  pub pairs : List Pair
  -- the most pairs that fit, and the largest edge that can be stored
  pub limit : ℕ
  pub max_edge : ℕ

-- how many nodes there are
abbrev pub nodes : State → ℕ
nodes s = s.inputs + 1 + length s.pairs

-- the edge's node is in the graph
abbrev pub Inside : State → Edge → Type 0
Inside s e = node e < nodes s

-- the value at a place of a list of node values, bottom past its end
unfoldable pub at : {V : Type 0} → BooleanAlgebra V → List V → ℕ → V
at k vs n = slice_index_or vs n k.bottom

-- node values, one more for each pair: the AND of its two edges
unfoldable pub grown : {V : Type 0} → BooleanAlgebra V → List V → List Pair → List V
grown k vs [] = vs
grown k vs (p ∷ ps) = grown k (vs ++ (pair_means k (at k vs) p ∷ [])) ps

-- the values of the constant and of the inputs, where input i has the value ρ i
abbrev pub roots : {V : Type 0} → BooleanAlgebra V → (ℕ → V) → ℕ → List V
roots k ρ i = k.bottom ∷ map ρ (range_with_len 1 i)

-- the value of every node, the constant first
abbrev pub node_values : {V : Type 0} → BooleanAlgebra V → (ℕ → V) → State → List V
node_values k ρ s = grown k (roots k ρ s.inputs) s.pairs

-- what an edge means in a graph under an assignment
abbrev pub meaning : {V : Type 0} → BooleanAlgebra V → (ℕ → V) → State → Edge → V
meaning k ρ s e = means k (at k (node_values k ρ s)) e
