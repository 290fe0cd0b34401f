-- The values of a graph's nodes as a relation, which says nothing of how they are found.
-- Three sentences, and the values that they allow are proved to be the only ones.
use Rattle.std.specs.Prelude.{◌≡◌, ℕ, ◌+◌, ◌<◌, List, Some}
use Rattle.std.specs.List.{slice_get}
use Rattle.values.specs.Algebra.{BooleanAlgebra}
use Rattle.rules.specs.declared.pair.Pair.{Pair}
use Rattle.rules.specs.declared.window.Window.{Window}
use Rattle.rules.specs.declared.window.Reply.{Reply}
use Rattle.rules.specs.Meaning.{means}
use Rattle.graph_model.specs.Graphs.{State, nodes, at}
use Rattle.graph_model.specs.WellFormed.{Well}

-- the list begins with a value for every node: false, the inputs' values, and for each pair the AND of its two edges
pub record Valuation {V : Type 0} (k : BooleanAlgebra V) (s : State) (ins vs : List V) : Type 0 where
  pub constant : at k vs 0 ≡ k.bottom
  pub inputs : (i : ℕ) → i < s.inputs → at k vs (1 + i) ≡ at k ins i
  pub ands : (j : ℕ) (p : Pair) → slice_get s.pairs j ≡ Some p → at k vs (s.inputs + 1 + j) ≡ k.and (means k (at k vs) p.larger) (means k (at k vs) p.smaller)

-- in a well-formed graph the inputs' values leave no choice
abbrev pub OneValuation : {V : Type 0} → BooleanAlgebra V → (Window → Reply) → Type 0
OneValuation {V} k b =
    (s : State) → Well b s → (ins us vs : List V) → Valuation k s ins us → Valuation k s ins vs → (n : ℕ) → n < nodes s → at k us n ≡ at k vs n
