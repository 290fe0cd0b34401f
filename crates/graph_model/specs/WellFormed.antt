-- What stays true of a graph, and when one graph extends another.
-- Each field is one of the promises, as a sentence about positions.
use Rattle.std.specs.Prelude.{◌≡◌, ℕ, ◌+◌, ◌*◌, ◌<◌, ◌≤◌, min, List, [], ◌++◌, Some}
use Rattle.std.specs.List.{slice_get}
use Rattle.rules.specs.declared.pair.Pair.{Pair}
use Rattle.rules.specs.declared.window.Window.{Window}
use Rattle.rules.specs.declared.window.Reply.{Reply}
use Rattle.rules.specs.declared.window.Reply.TheVariants.{Store as store}
use Rattle.rules.specs.Edges.{node}
use Rattle.graph_model.specs.Graphs.{State}
use Rattle.graph_model.specs.Requests.{window}
use Rattle.graph_model.specs.Settling.{Unlike}

-- every stored pair is new, earlier-pointing and irreducible
pub record Well (b : Window → Reply) (s : State) : Type 0 where
  -- every edge of the graph can be stored
  pub roomy : 2 * (s.limit + s.inputs) + 1 ≤ s.max_edge
  -- a pair points only to earlier nodes
  pub earlier : (i : ℕ) (p : Pair) → slice_get s.pairs i ≡ Some p → (node p.larger < s.inputs + 1 + i) × (node p.smaller < s.inputs + 1 + i)
  -- it is stored once
  pub once : (i j : ℕ) (p : Pair) → slice_get s.pairs i ≡ Some p → slice_get s.pairs j ≡ Some p → i ≡ j
  -- no trivial case answers it, and no rule fits its window
  pub unlike : (i : ℕ) (p : Pair) → slice_get s.pairs i ≡ Some p → Unlike p.larger p.smaller
  pub irreducible : (i : ℕ) (p : Pair) → slice_get s.pairs i ≡ Some p → b (window s p) ≡ store

-- t has what s has, and perhaps more after it
pub record Extends (s t : State) : Type 0 where
  pub inputs : t.inputs ≡ s.inputs
  pub limit : t.limit ≡ s.limit
  pub max_edge : t.max_edge ≡ s.max_edge
  pub more : List Pair
  pub pairs : t.pairs ≡ s.pairs ++ more

-- a graph that stores nothing yet; more than 4,096 inputs count as 4,096
abbrev pub new_state : ℕ → ℕ → ℕ → State
new_state inputs limit max_edge = record { inputs = min inputs 4096; pairs = []; limit = limit; max_edge = max_edge }
