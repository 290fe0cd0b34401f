-- How reading a circuit file into a graph answers.
-- That it allows one answer is proved (`OneReading`), and so is what the edges mean (`FilesMean`).
use Rattle.std.specs.Prelude.{◌≡◌, ℕ, ◌+◌, ◌≤◌, ◌⊎◌, List, ◌++◌, map, length, take, drop, Ok, Err, Result, slice_index_or}
use Rattle.rules.specs.declared.edge.Edge.{Edge}
use Rattle.rules.specs.declared.window.Window.{Window}
use Rattle.rules.specs.declared.window.Reply.{Reply}
use Rattle.rules.specs.Edges.{false_edge, undefined_edge}
use Rattle.graph_model.specs.Graphs.{State}
use Rattle.graph_model.specs.WellFormed.{Well, Extends}
use Rattle.aiger_lines.specs.declared.fields.Header.{Header}
use Rattle.aiger_check.specs.declared.faults.CircuitFault.{CircuitFault}
use Rattle.aiger_check.specs.declared.faults.CircuitFault.TheVariants.{Line}
use Rattle.aiger_check.specs.declared.faults.LineFault.TheVariants.{Full}
use Rattle.aiger_check.specs.Circuits.{Item, Defined}
use Rattle.aiger_check.specs.Checks.{notes}
use Rattle.aiger_check.specs.Files.{Taken, literal, marked}
use Rattle.aiger_check.specs.Calls.{Checked, opened}
use Rattle.aiger_read.specs.Requests.{Outcome, done, stopped, run, through}

-- the requests of a taken file, from a map that holds the constant and the inputs
abbrev pub requests : (Window → Reply) → Header → List Item → List Edge → State → Outcome
requests b h is m s = run b (h.inputs + h.outputs) (drop (h.inputs + h.outputs) is) s (notes 0 is (opened h.max m)) 0

-- every request was answered: n nodes were added, each output is its literal's edge, and a variable that no line defines has none
pub record Filled (b : Window → Reply) (h : Header) (is : List Item) (m o : List Edge) (s : State) (n : ℕ) (t : State) (m' o' : List Edge) : Type 0 where
  pub runs : requests b h is m s ≡ done m' t n
  pub unknown : (x : ℕ) → x ≤ h.max → (Defined is x → ⊥) → slice_index_or m' x false_edge ≡ undefined_edge
  pub beyond : drop (h.max + 1) m' ≡ drop (h.max + 1) m
  pub outputs : o' ≡ map (λ i. through m' (literal i)) (take h.outputs (drop h.inputs is)) ++ drop h.outputs o

-- the graph was full at a gate: the gates before it stay stored, and every place is undefined
pub record Stopped (b : Window → Reply) (h : Header) (is : List Item) (m o : List Edge) (s : State) (f : CircuitFault) (t : State) (m' o' : List Edge) : Type 0 where
  pub at : ℕ
  pub runs : requests b h is m s ≡ stopped at t
  pub fault : f ≡ Line (record { line = at + 2; fault = Full })
  pub map : m' ≡ marked (h.max + 1) m
  pub outputs : o' ≡ marked h.outputs o

-- a file read into the graph s, with a map m and outputs o: the answer, and the graph, the map and the outputs after it
abbrev pub Reads : (Window → Reply) → List ℕ → State → List Edge → List Edge → Result ℕ CircuitFault → State → List Edge → List Edge → Type 0
Reads b bytes s m o (Ok n) t m' o' = (h : Header) × (is : List Item) × Taken bytes s.inputs (length m) (length o) h is × Filled b h is m o s n t m' o'
Reads b bytes s m o (Err f) t m' o' =
    (Checked bytes s.inputs m o (Err f) m' o' × (t ≡ s))
    ⊎ ((h : Header) × (is : List Item) × Taken bytes s.inputs (length m) (length o) h is × Stopped b h is m o s f t m' o')

-- a file is read in one way only
abbrev pub OneReading : (Window → Reply) → Type 0
OneReading b =
    (bytes : List ℕ) (s : State) (m o : List Edge) (r q : Result ℕ CircuitFault) (t u : State) (m' p o' v : List Edge)
    → Reads b bytes s m o r t m' o' → Reads b bytes s m o q u p v → (r ≡ q) × (t ≡ u) × (m' ≡ p) × (o' ≡ v)

-- a file that was taken, read again at any later moment, gives the same edges, and nothing is stored
abbrev pub FilesRepeat : (Window → Reply) → Type 0
FilesRepeat b =
    (bytes : List ℕ) (s t u v : State) (m o m' o' m'' o'' : List Edge) (n : ℕ) (r : Result ℕ CircuitFault)
    → Well b s → Reads b bytes s m o (Ok n) t m' o' → Extends t u → Well b u → Reads b bytes u m o r v m'' o''
    → (r ≡ Ok 0) × (v ≡ u) × (m'' ≡ m') × (o'' ≡ o')
