-- That the nodes counted by the answers of a history are those of its graph, and that its questions have room for them.
-- The nodes of the graph itself are the other side of the count.
use Rattle.std.specs.Prelude.{◌≡◌, ℕ, ◌+◌, ◌≤◌, List, [], ◌∷◌}
use Rattle.graph_model.specs.Graphs.{nodes}
use Rattle.history_model.specs.declared.request.Request.{Request}
use Rattle.history_model.specs.declared.request.Request.TheVariants.{Evaluate, Compare, Tabulate}
use Rattle.history_model.specs.Histories.{Moment}
use Rattle.request_scripts.specs.Sizes.{size_after}

-- before each of these moments the graph has the constant, so many inputs, and as many nodes as the answers before it say, n at first
abbrev pub NodesCounted : {W : Type 0} → ℕ → ℕ → ℕ → List (Moment W) → Type 0
NodesCounted inputs limit n [] = Unit {0}
NodesCounted inputs limit n (m ∷ ms) = (nodes m.before.graph ≡ inputs + 1 + n) × NodesCounted inputs limit (size_after limit n m.answer) ms

-- a question's list has a place for each of n nodes
abbrev pub HasRoom : {W : Type 0} → Request W → ℕ → Type 0
HasRoom (Evaluate ins places) n = n ≤ places
HasRoom (Compare x y places) n = n ≤ places
HasRoom (Tabulate e places) n = n ≤ places
HasRoom r n = Unit {0}
