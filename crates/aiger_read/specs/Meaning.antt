-- What a circuit file says by itself: a value for each variable, in any Boolean algebra.
-- Equations between values of variables; no graph, map or rule occurs in what a file says.
use Rattle.std.specs.Prelude.{◌≡◌, ℕ, ◌+◌, ◌/◌, ◌%◌, ◌<◌, ◌≤◌, ◌⊎◌, List, length, Ok, Err, Result, ◌==◌, slice_index_or, if◌then◌else◌}
use Rattle.values.specs.Algebra.{BooleanAlgebra}
use Rattle.rules.specs.declared.edge.Edge.{Edge}
use Rattle.rules.specs.Edges.{false_edge}
use Rattle.rules.specs.declared.window.Window.{Window}
use Rattle.rules.specs.declared.window.Reply.{Reply}
use Rattle.graph_model.specs.Graphs.{State, Inside, meaning}
use Rattle.graph_model.specs.WellFormed.{Well, Extends}
use Rattle.aiger_lines.specs.declared.fields.Header.{Header}
use Rattle.aiger_check.specs.declared.faults.CircuitFault.{CircuitFault}
use Rattle.aiger_check.specs.Circuits.{Item, input, output, gate, Defined, nothing}
use Rattle.aiger_check.specs.Files.{Taken, literal}
use Rattle.aiger_read.specs.Reads.{Reads}

-- an odd literal is the NOT of its variable
abbrev pub lit : {V : Type 0} → BooleanAlgebra V → (ℕ → V) → ℕ → V
lit k w l = if l % 2 == 0 then w (l / 2) else k.not (w (l / 2))

-- w gives item j's variable its value, where the graph's input i has the value ρ i, from 1 on
abbrev pub Agrees : {V : Type 0} → BooleanAlgebra V → (ℕ → V) → (ℕ → V) → ℕ → Item → Type 0
Agrees k ρ w j (input v) = w (v / 2) ≡ ρ (j + 1)
Agrees k ρ w j (output v) = Unit {0}
Agrees k ρ w j (gate a b c) = w (a / 2) ≡ k.and (lit k w b) (lit k w c)

-- w gives each variable the value that the file says
pub record Satisfies {V : Type 0} (k : BooleanAlgebra V) (is : List Item) (ρ w : ℕ → V) : Type 0 where
  pub constant : w 0 ≡ k.bottom
  pub each : (j : ℕ) → j < length is → Agrees k ρ w j (slice_index_or is j nothing)

-- the edge is in the graph, and means the value v of what the file says
abbrev pub Stands : {V : Type 0} → BooleanAlgebra V → List Item → State → Edge → ((ℕ → V) → V) → Type 0
Stands {V} k is s e v = Inside s e × ((ρ w : ℕ → V) → Satisfies k is ρ w → meaning k ρ s e ≡ v w)

-- the place of each variable that `some` of the items define stands for that variable
abbrev pub Right : {V : Type 0} → BooleanAlgebra V → List Item → List Item → State → List Edge → Type 0
Right k is some s m = (x : ℕ) → Defined some x → Stands k is s (slice_index_or m x false_edge) (λ w. w x)

-- what was read of a file, into a graph that is now t: every assignment of the inputs has its values,
-- and the places of the defined variables and the outputs stand for them
pub record FileMeans {V : Type 0} (k : BooleanAlgebra V) (bytes : List ℕ) (s : State) (m o : List Edge) (t : State) (m' o' : List Edge) : Type 0 where
  pub header : Header
  pub items : List Item
  pub taken : Taken bytes s.inputs (length m) (length o) header items
  pub solvable : (ρ : ℕ → V) → (w : ℕ → V) × Satisfies k items ρ w
  pub places : Right k items items t m'
  pub outputs : (j : ℕ) → j < header.outputs → Stands k items t (slice_index_or o' j false_edge) (λ w. lit k w (literal (slice_index_or items (header.inputs + j) nothing)))

-- what was read of a file, under the assignment ρ alone: value gives every edge that was put into the map and the outputs
-- what the file says by itself, in a graph of that many inputs with that much room in its map and its outputs
pub record FileGives {V : Type 0} (k : BooleanAlgebra V) (bytes : List ℕ) (graph mapped out : ℕ) (m' o' : List Edge) (ρ : ℕ → V) (value : Edge → V) : Type 0 where
  pub header : Header
  pub items : List Item
  pub taken : Taken bytes graph mapped out header items
  pub solvable : (w : ℕ → V) × Satisfies k items ρ w
  pub places : (x : ℕ) → Defined items x → (w : ℕ → V) → Satisfies k items ρ w → value (slice_index_or m' x false_edge) ≡ w x
  pub outputs : (j : ℕ) → j < header.outputs → (w : ℕ → V) → Satisfies k items ρ w → value (slice_index_or o' j false_edge) ≡ lit k w (literal (slice_index_or items (header.inputs + j) nothing))

-- a file read into a well-formed graph: what was there stays, n nodes are added, and the file's circuit is in the graph
pub record ReadRight {V : Type 0} (k : BooleanAlgebra V) (b : Window → Reply) (bytes : List ℕ) (s : State) (m o : List Edge) (n : ℕ) (t : State) (m' o' : List Edge) : Type 0 where
  pub extends : Extends s t
  pub well : Well b t
  pub counts : length t.pairs ≡ length s.pairs + n
  pub means : FileMeans k bytes s m o t m' o'

-- a refused file: nothing is stored, or the graph is full
pub record ReadRefused (b : Window → Reply) (s t : State) : Type 0 where
  pub extends : Extends s t
  pub well : Well b t
  pub full : (t ≡ s) ⊎ (t.limit ≤ length t.pairs)

abbrev pub ReadDoes : {V : Type 0} → BooleanAlgebra V → (Window → Reply) → List ℕ → State → List Edge → List Edge → Result ℕ CircuitFault → State → List Edge → List Edge → Type 0
ReadDoes k b bytes s m o (Ok n) t m' o' = ReadRight k b bytes s m o n t m' o'
ReadDoes k b bytes s m o (Err f) t m' o' = ReadRefused b s t

-- whatever file is read into a well-formed graph under these rules
abbrev pub FilesMean : {V : Type 0} → BooleanAlgebra V → (Window → Reply) → Type 0
FilesMean k b = (bytes : List ℕ) (s : State) (m o : List Edge) (r : Result ℕ CircuitFault) (t : State) (m' o' : List Edge) → Well b s → Reads b bytes s m o r t m' o' → ReadDoes k b bytes s m o r t m' o'
