-- A graph written and read back.
-- It is said of reading and writing as they are defined elsewhere, and would fail were either wrong by itself.
use Rattle.std.specs.Prelude.{◌≡◌, ℕ, ◌+◌, ◌<◌, ◌≤◌, List, [], ◌∷◌, length, take, Ok, Result, slice_index_or}
use Rattle.rules.specs.declared.edge.Edge.{Edge}
use Rattle.rules.specs.declared.pair.Pair.{Pair}
use Rattle.rules.specs.declared.window.Window.{Window}
use Rattle.rules.specs.declared.window.Reply.{Reply}
use Rattle.rules.specs.Edges.{false_edge, node}
use Rattle.graph_model.specs.Graphs.{State, Inside}
use Rattle.graph_model.specs.WellFormed.{Well}
use Rattle.aiger_lines.specs.declared.fields.Header.{Header}
use Rattle.aiger_check.specs.declared.faults.CircuitFault.{CircuitFault}
use Rattle.aiger_check.specs.Circuits.{Item, total, Due, Defined, Good, nothing}
use Rattle.aiger_check.specs.Files.{Within, OutputDefined}
use Rattle.aiger_write.specs.Writing.{text_of, write_of, written}
use Rattle.aiger_read.specs.Reads.{Reads}

-- a circuit that can stand in a file
pub record WellFormed (h : Header) (is : List Item) : Type 0 where
  pub count : length is ≡ total h
  pub due : (k : ℕ) → k < length is → Due h k (slice_index_or is k nothing)
  pub good : (k : ℕ) → k < length is → Good h.max (Defined (take k is)) (slice_index_or is k nothing)
  pub outputs : (j : ℕ) → j < h.outputs → OutputDefined h is j
  pub latches : h.latches ≡ 0
  pub within : Within h

-- each pair's edges lead to nodes before its own, from node p on
abbrev pub Ordered : ℕ → List Pair → Type 0
Ordered p [] = Unit {0}
Ordered p (x ∷ xs) = (node x.larger < p) × (node x.smaller < p) × Ordered (p + 1) xs

-- a graph of n inputs whose text is a circuit
pub record Drawn (n : ℕ) (pairs : List Pair) (os : List Edge) : Type 0 where
  pub inputs : n ≤ 4096
  pub size : length pairs ≤ 1000000
  pub count : length os ≤ 4096
  pub ordered : Ordered (n + 1) pairs
  pub known : (j : ℕ) → j < length os → node (slice_index_or os j false_edge) ≤ n + length pairs

-- a graph whose text a file can hold: within the limits of a file, with every output in it
pub record Writable (s : State) (os : List Edge) : Type 0 where
  pub inputs : s.inputs ≤ 4096
  pub size : length s.pairs ≤ 1000000
  pub count : length os ≤ 4096
  pub inside : (j : ℕ) → j < length os → Inside s (slice_index_or os j false_edge)
  pub short : length (text_of s os) ≤ 1048576

-- a new graph u with a map m and outputs o, in which s has room
pub record Room (s : State) (os : List Edge) (u : State) (m o : List Edge) : Type 0 where
  pub inputs : u.inputs ≡ s.inputs
  pub new : u.pairs ≡ []
  pub limit : length s.pairs ≤ u.limit
  pub map : s.inputs + length s.pairs < length m
  pub outputs : length os ≤ length o

-- the same pairs are stored again, and the same edges are the outputs
pub record Again (s : State) (os : List Edge) (r : Result ℕ CircuitFault) (t : State) (o' : List Edge) : Type 0 where
  pub answer : r ≡ Ok (length s.pairs)
  pub inputs : t.inputs ≡ s.inputs
  pub pairs : t.pairs ≡ s.pairs
  pub outputs : take (length os) o' ≡ os

-- whatever is read of a well-formed graph's text, it is that graph
abbrev pub RoundTrips : (Window → Reply) → Type 0
RoundTrips b =
    (s : State) (os : List Edge) (u : State) (m o : List Edge) (r : Result ℕ CircuitFault) (t : State) (m' o' : List Edge)
    → Well b s → Writable s os → Well b u → Room s os u m o → Reads b (text_of s os) u m o r t m' o' → Again s os r t o'

-- the same of the calls: what was written into a buffer is read from it
abbrev pub WritesBack : (Window → Reply) → Type 0
WritesBack b =
    (s : State) (os : List Edge) (buffer : List ℕ) (n : ℕ) (u : State) (m o : List Edge) (r : Result ℕ CircuitFault) (t : State) (m' o' : List Edge)
    → Well b s → s.inputs ≤ 4096 → length s.pairs ≤ 1000000 → write_of s os buffer ≡ Ok n → n ≤ 1048576
    → Well b u → Room s os u m o → Reads b (take n (written s os buffer)) u m o r t m' o' → Again s os r t o'
