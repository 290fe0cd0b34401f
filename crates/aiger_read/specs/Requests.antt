-- The AND requests of a file, one after another.
-- It is the file's gates in order, and FilesMean says what comes of them.
use Rattle.std.specs.Prelude.{◌≡◌, ℕ, ◌+◌, ◌/◌, ◌%◌, List, [], ◌∷◌, Ok, Err, Result, ◌==◌, slice_index_or, slice_set, if◌then◌else◌}
use Rattle.rules.specs.declared.edge.Edge.{Edge}
use Rattle.rules.specs.declared.window.Window.{Window}
use Rattle.rules.specs.declared.window.Reply.{Reply}
use Rattle.rules.specs.Edges.{edge, complement}
use Rattle.graph_model.specs.Graphs.{State}
use Rattle.graph_model.specs.Requests.{and_of}
use Rattle.aiger_check.specs.declared.faults.LineFault.TheVariants.{Full}
use Rattle.aiger_check.specs.declared.faults.AtLine.{AtLine}
use Rattle.aiger_check.specs.Circuits.{Item, input, output, gate}

-- a literal of the file as an edge of the graph, by the map
abbrev pub through : List Edge → ℕ → Edge
through m l = if l % 2 == 0 then slice_index_or m (l / 2) (edge 0) else complement (slice_index_or m (l / 2) (edge 0))

-- after the last request: the map, the graph, and how many nodes were added; or the item whose request was refused, and the graph
pub data Outcome : Type 0 where
  done : List Edge → State → ℕ → Outcome
  stopped : ℕ → State → Outcome

-- the requests of the items from number n on, where a nodes were added before
unfoldable pub run : (Window → Reply) → ℕ → List Item → State → List Edge → ℕ → Outcome
run b n [] s m a = done m s a
run b n (input v ∷ is) s m a = run b (n + 1) is s m a
run b n (output v ∷ is) s m a = run b (n + 1) is s m a
run b n (gate x y z ∷ is) s m a =
    elim (and_of b s (through m y) (through m z)).answer [
      | Ok r ↦ run b (n + 1) is (and_of b s (through m y) (through m z)).after (slice_set m (x / 2) r.0) (a + (if r.1 then 1 else 0))
      | Err e ↦ stopped n (and_of b s (through m y) (through m z)).after
    ]

-- how a pass over the items answers: every refused request is told as a full graph, on the item's line
abbrev pub Requested : (Window → Reply) → ℕ → List Item → State → List Edge → Result ℕ AtLine → State → List Edge → Type 0
Requested b n is s m (Ok a) t p = run b n is s m 0 ≡ done p t a
Requested b n is s m (Err f) t p = (k : ℕ) × (run b n is s m 0 ≡ stopped k t) × (f ≡ record { line = k + 2; fault = Full })
