-- What simulating a circuit file on a file of test frames gives: why either is refused, or the outputs under each frame.
-- An output's digit is what the file alone says (`Satisfies`); no graph occurs in it.
use Rattle.std.specs.Prelude.{◌≡◌, ℕ, ◌+◌, ◌<◌, Bool, false, List, map, length, replicate, Ok, Err, vec_items, All, Result, Vec, slice_index_or}
use Rattle.std.specs.List.{flat_map}
use Rattle.std.specs.declared.alloc.AllocError.{AllocError}
use Rattle.std.specs.declared.alloc.Global.{Global}
use Rattle.values.specs.Bit.{bit_algebra}
use Rattle.rules.specs.declared.edge.Edge.{Edge}
use Rattle.rules.specs.declared.window.Window.{Window}
use Rattle.rules.specs.declared.window.Reply.{Reply}
use Rattle.rules.specs.Edges.{undefined_edge}
use Rattle.graph_model.specs.Graphs.{State}
use Rattle.graph_model.specs.WellFormed.{new_state}
use Rattle.questions.specs.Evaluation.{assigned}
use Rattle.aiger_lines.specs.declared.fields.Header.{Header}
use Rattle.aiger_check.specs.declared.faults.CircuitFault.{CircuitFault}
use Rattle.aiger_check.specs.Circuits.{Item, nothing}
use Rattle.aiger_check.specs.Files.{Taken, literal}
use Rattle.aiger_room.specs.declared.room.Room.{Room}
use Rattle.aiger_room.specs.Rooms.{RoomFor}
use Rattle.aiger_read.specs.Meaning.{lit, Satisfies}
use Rattle.aiger_read.specs.Reads.{Reads}
use Rattle.simulation.specs.declared.error.SimulateError.{SimulateError}
use Rattle.simulation.specs.declared.error.SimulateError.TheVariants.{Refused, Frame, Memory}
use Rattle.simulation.specs.Frames.{digits, FramesOf, NoFrame}
use Rattle.simulation.specs.Answers.{answer_line}

-- so many undefined places
abbrev pub blank : ℕ → List Edge
blank n = replicate n undefined_edge

-- the circuit file was read into a new graph with room for `limit` pairs, and this was the answer
pub record Loaded (b : Window → Reply) (bytes : List ℕ) (limit max_edge : ℕ) (r : Result ℕ CircuitFault) : Type 0 where
  pub room : Room
  pub named : RoomFor bytes room
  pub graph : State
  pub map : List Edge
  pub outputs : List Edge
  pub reads : Reads b bytes (new_state room.inputs limit max_edge) (blank room.places) (blank room.outputs) r graph map outputs

-- the file is taken where there is just the room that it asks for, and says this header and these items
abbrev pub Says : List ℕ → Header → List Item → Type 0
Says bytes h is = Taken bytes h.inputs (h.max + 1) h.outputs h is

-- a frame, and the outputs under it
pub record Row : Type 0 where
  pub frame : List Bool
  pub outputs : List Bool

-- the frame's digits, a space, and the outputs' digits
abbrev pub row_line : Row → List ℕ
row_line r = answer_line (digits r.frame) r.outputs

-- the outputs are what the file says: there are values for its variables under the frame, and whichever they are, each output is that of its literal
pub record Simulated (h : Header) (is : List Item) (r : Row) : Type 0 where
  pub count : length r.outputs ≡ h.outputs
  pub solvable : (w : ℕ → Bool) × Satisfies bit_algebra is (assigned bit_algebra r.frame) w
  pub outputs : (j : ℕ) → j < h.outputs → (w : ℕ → Bool) → Satisfies bit_algebra is (assigned bit_algebra r.frame) w → slice_index_or r.outputs j false ≡ lit bit_algebra w (literal (slice_index_or is (h.inputs + j) nothing))

-- a circuit file, simulated on a file of frames; nothing is said where memory runs out
pub data Simulates (b : Window → Reply) (circuit frames : List ℕ) (limit max_edge : ℕ) : Result (Vec ℕ Global) SimulateError → Type 0 where
  refused : {f : CircuitFault} → Loaded b circuit limit max_edge (Err f) → Simulates b circuit frames limit max_edge (Err (Refused f))
  no_frame : {n k : ℕ} {h : Header} {is : List Item} → Loaded b circuit limit max_edge (Ok n) → Says circuit h is → NoFrame h.inputs frames k → Simulates b circuit frames limit max_edge (Err (Frame k))
  answered : {n : ℕ} {h : Header} {is : List Item} {text : Vec ℕ Global} (rows : List Row) → Loaded b circuit limit max_edge (Ok n) → Says circuit h is
      → FramesOf h.inputs frames (map (λ (r : Row). r.frame) rows) → All (Simulated h is) rows → vec_items text ≡ flat_map row_line rows → Simulates b circuit frames limit max_edge (Ok text)
  out_of_memory : {e : AllocError} → Simulates b circuit frames limit max_edge (Err (Memory e))
