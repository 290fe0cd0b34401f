-- What reducing a circuit file gives: why it is refused, or the text of the graph that was built.
-- It is said by reading and writing as they are defined elsewhere, and tells which of them refused.
use Rattle.std.specs.Prelude.{◌≡◌, ℕ, ◌+◌, ◌<◌, ◌≤◌, List, length, take, replicate, Ok, Err, vec_items, Result, Vec}
use Rattle.std.specs.declared.alloc.AllocError.{AllocError}
use Rattle.std.specs.declared.alloc.Global.{Global}
use Rattle.rules.specs.declared.edge.Edge.{Edge}
use Rattle.rules.specs.declared.window.Window.{Window}
use Rattle.rules.specs.declared.window.Reply.{Reply}
use Rattle.rules.specs.Edges.{undefined_edge}
use Rattle.graph_model.specs.declared.refusal.Refusal.{Refusal}
use Rattle.graph_model.specs.Graphs.{State}
use Rattle.graph_model.specs.WellFormed.{Well, new_state}
use Rattle.aiger_lines.specs.declared.fields.Header.{Header}
use Rattle.aiger_check.specs.declared.faults.CircuitFault.{CircuitFault}
use Rattle.aiger_check.specs.declared.faults.CircuitFault.TheVariants.{TooLarge}
use Rattle.aiger_check.specs.Files.{HeaderAt}
use Rattle.aiger_check.specs.Text.{lines}
use Rattle.aiger_room.specs.declared.room.Room.{Room}
use Rattle.aiger_room.specs.Rooms.{RoomFor}
use Rattle.aiger_read.specs.Reads.{Reads}
use Rattle.aiger_read.specs.RoundTrip.{Again}
use Rattle.aiger_write.specs.Writing.{text_of, write_of}
use Rattle.reduction.specs.declared.limits.Limits.{Limits}
use Rattle.reduction.specs.declared.error.ReduceError.{ReduceError}
use Rattle.reduction.specs.declared.error.ReduceError.TheVariants.{Refused, ReadsBackOtherwise, Memory}
use Rattle.reduction.specs.declared.error.Refused.TheVariants.{File, Write}

-- so many undefined places
abbrev pub blank : ℕ → List Edge
blank n = replicate n undefined_edge

-- the file was read into a new graph with room for `limit` pairs: the answer, the graph, and the outputs
pub record Built (b : Window → Reply) (bytes : List ℕ) (l : Limits) (limit max_edge : ℕ) (r : Result ℕ CircuitFault) (t : State) (outputs : List Edge) : Type 0 where
  pub room : Room
  pub named : RoomFor bytes room
  pub map : List Edge
  pub reads : Reads b bytes (new_state room.inputs limit max_edge) (blank l.places) (blank l.outputs) r t map outputs
  pub well : Well b t

-- the file was taken: it built the graph t, and these are its outputs
pub record Builds (b : Window → Reply) (bytes : List ℕ) (l : Limits) (limit max_edge : ℕ) (t : State) (os : List Edge) : Type 0 where
  pub small : length bytes ≤ l.file
  pub added : ℕ
  pub outputs : List Edge
  pub built : Built b bytes l limit max_edge (Ok added) t outputs
  pub header : Header
  pub headed : HeaderAt (lines bytes) header
  pub named : os ≡ take header.outputs outputs

-- and this is the text of the two
pub record Wrote (b : Window → Reply) (bytes : List ℕ) (l : Limits) (limit max_edge : ℕ) (t : State) (os : List Edge) (text : List ℕ) : Type 0 where
  pub builds : Builds b bytes l limit max_edge t os
  pub answer : write_of t os (replicate l.text 0) ≡ Ok (length text)
  pub text_is : text ≡ text_of t os

-- read back into a new graph with room for `limit` pairs, the text gives the same pairs and outputs
pub record Same (b : Window → Reply) (t : State) (os : List Edge) (l : Limits) (limit max_edge : ℕ) : Type 0 where
  pub answer : Result ℕ CircuitFault
  pub graph : State
  pub map : List Edge
  pub outputs : List Edge
  pub reads : Reads b (text_of t os) (new_state t.inputs limit max_edge) (blank l.places) (blank l.outputs) answer graph map outputs
  pub again : Again t os answer graph outputs

-- the second graph has room for whatever the first one holds, and the text is no longer than a file
pub record Roomy (l : Limits) (limit spare : ℕ) : Type 0 where
  pub records : limit ≤ spare
  pub places : 4096 + limit < l.places
  pub text : l.text ≤ 1048576

-- a circuit file reduced in a graph with room for `limit` pairs, and read back into one with room for `spare`; nothing is said where memory runs out
pub data Reduces (b : Window → Reply) (bytes : List ℕ) (l : Limits) (limit max_edge spare spare_max : ℕ) : Result (Vec ℕ Global) ReduceError → Type 0 where
  too_large : l.file < length bytes → Reduces b bytes l limit max_edge spare spare_max (Err (Refused (File TooLarge)))
  file_refused : {f : CircuitFault} {t : State} {outputs : List Edge} → length bytes ≤ l.file → Built b bytes l limit max_edge (Err f) t outputs
      → Reduces b bytes l limit max_edge spare spare_max (Err (Refused (File f)))
  text_refused : {t : State} {os : List Edge} {c : Refusal} → Builds b bytes l limit max_edge t os → write_of t os (replicate l.text 0) ≡ Err c → Reduces b bytes l limit max_edge spare spare_max (Err (Refused (Write c)))
  written : {t : State} {os : List Edge} {text : Vec ℕ Global} → Wrote b bytes l limit max_edge t os (vec_items text) → Same b t os l spare spare_max → Reduces b bytes l limit max_edge spare spare_max (Ok text)
  -- never where there is room
  otherwise : {t : State} {os : List Edge} {text : Vec ℕ Global} → Wrote b bytes l limit max_edge t os (vec_items text) → (Same b t os l spare spare_max → ⊥) → (Roomy l limit spare → ⊥)
      → Reduces b bytes l limit max_edge spare spare_max (Err (ReadsBackOtherwise text))
  out_of_memory : {e : AllocError} → Reduces b bytes l limit max_edge spare spare_max (Err (Memory e))
