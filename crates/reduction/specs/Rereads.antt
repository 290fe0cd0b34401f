-- What it takes to read a written text back.
-- The same pairs and outputs, by equality.
use Rattle.std.specs.Prelude.{Decides, ◌≡◌, ℕ, ◌+◌, ◌<◌, ◌≤◌, Bool, true, List, [], ◌∷◌, length, vec_items}
use Rattle.rules.specs.declared.edge.Edge.{Edge}
use Rattle.rules.specs.declared.window.Window.{Window}
use Rattle.rules.specs.declared.window.Reply.{Reply}
use Rattle.graph_model.specs.Graphs.{State}
use Rattle.graph_model.specs.WellFormed.{Well}
use Rattle.aiger_read.specs.RoundTrip.{Writable}
use Rattle.aiger_write.specs.Writing.{text_of}
use Rattle.history_model.specs.Histories.{Told, read, written}
use Rattle.reduction.specs.Reductions.{Same}
use Rattle.reduction.specs.declared.limits.Limits.{Limits}
use Rattle.reduction.specs.declared.reduce.Parts.{Parts}

-- the text is that of a well-formed graph t with these outputs, and a new graph with room for `limit` pairs has room for it
pub record Rereadable (b : Window → Reply) (t : State) (os : List Edge) (text : List ℕ) (l : Limits) (limit : ℕ) : Type 0 where
  pub well : Well b t
  pub writable : Writable t os
  pub text_is : text ≡ text_of t os
  pub records : length t.pairs ≤ limit
  pub places : t.inputs + length t.pairs < l.places
  pub outputs : length os ≤ l.outputs

-- the flag tells whether a text was read back as the same graph and outputs, and it is so wherever there is room
abbrev pub Tells : (Window → Reply) → State → List Edge → List ℕ → Limits → ℕ → ℕ → Bool → Type 0
Tells b t os text l limit max_edge same = (text ≡ text_of t os → Decides same (Same b t os l limit max_edge)) × (Rereadable b t os text l limit → same ≡ true)

-- two answers: of a file, and of a text
abbrev pub of_parts : {W : Type 0} → Parts → List Edge → List (Told W)
of_parts p map = read p.added map (vec_items p.outputs) ∷ written p.length (vec_items p.buffer) ∷ []
