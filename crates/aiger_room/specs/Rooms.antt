-- The room that a circuit file asks for, by its header.
-- It is the header's own numbers, up to what a header may have.
use Rattle.std.specs.Prelude.{◌≡◌, ℕ, ◌+◌, ◌≤◌, ◌⊎◌, List, length, min}
use Rattle.aiger_lines.specs.declared.fields.Header.{Header}
use Rattle.aiger_check.specs.Circuits.{Item}
use Rattle.aiger_check.specs.Files.{HeaderAt, Taken}
use Rattle.aiger_check.specs.Text.{lines}
use Rattle.aiger_room.specs.declared.room.Room.{Room}

-- what a header asks for, up to the most that it may
abbrev pub room_of : Header → Room
room_of h = record { inputs = h.inputs; places = min (h.max + 1) 1004097; outputs = min h.outputs 4096; gates = min h.ands 1000000 }

abbrev pub no_room : Room
no_room = record { inputs = 0; places = 0; outputs = 0; gates = 0 }

-- as the file's header asks, and none where there is no header
abbrev pub RoomFor : List ℕ → Room → Type 0
RoomFor bytes r = ((h : Header) × HeaderAt (lines bytes) h × (r ≡ room_of h)) ⊎ (((h : Header) → HeaderAt (lines bytes) h → ⊥) × (r ≡ no_room))

-- a file that is taken anywhere is taken in this room, and nowhere in less; its lines are so many inputs, outputs and gates
abbrev pub LeastTaken : List ℕ → Room → Type 0
LeastTaken bytes r = (graph places outs : ℕ) (h : Header) (is : List Item) → Taken bytes graph places outs h is → Taken bytes r.inputs r.places r.outputs h is × (r.places ≤ places) × (r.outputs ≤ outs) × (length is ≡ r.inputs + r.outputs + r.gates)

-- where there is no header, no room is smaller
abbrev pub LeastRefused : List ℕ → Room → Type 0
LeastRefused bytes r = ((h : Header) → HeaderAt (lines bytes) h → ⊥) → (s : Room) → (r.inputs ≤ s.inputs) × (r.places ≤ s.places) × (r.outputs ≤ s.outputs) × (r.gates ≤ s.gates)

abbrev pub LeastRoom : List ℕ → Room → Type 0
LeastRoom bytes r = LeastTaken bytes r × LeastRefused bytes r
