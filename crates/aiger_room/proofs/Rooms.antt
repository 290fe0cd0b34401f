-- The room of a file that has a header, and of one that is taken.
use Rattle.std.proofs.Common.{◌≡◌, ℕ, ◌<◌, ◌≤◌, List, [], get_or, sym, ap, ◌∙◌, inl, inr, ⊎_elim, arith}
use Rattle.aiger_lines.specs.declared.fields.Header.{Header}
use Rattle.aiger_check.specs.Circuits.{Item}
use Rattle.aiger_check.specs.Files.{HeaderAt, Taken}
use Rattle.aiger_check.specs.Text.{lines}
use Rattle.aiger_check.proofs.Lines.{header_unique}
use Rattle.aiger_room.specs.declared.room.Room.{Room}
use Rattle.aiger_room.specs.Rooms.{room_of, no_room, RoomFor, LeastTaken, LeastRefused, LeastRoom}

-- a file that has a header gets what this header asks for
room_is : (bytes : List ℕ) (r : Room) (h : Header) → RoomFor bytes r → HeaderAt (lines bytes) h → r ≡ room_of h
room_is bytes r h named at =
    ⊎_elim
    (λ (n : (g : Header) × HeaderAt (lines bytes) g × (r ≡ room_of g)). n.2 ∙ ap room_of (header_unique (get_or (lines bytes) 0 []) n.0 h n.1 at))
    (λ (n : ((g : Header) → HeaderAt (lines bytes) g → ⊥) × (r ≡ no_room)). absurd (n.0 h at))
    named

-- a file asks for one room
pub room_once : (bytes : List ℕ) (r s : Room) → RoomFor bytes r → RoomFor bytes s → r ≡ s
room_once bytes r s (inl (h, at, e)) named = e ∙ sym (room_is bytes s h named at)
room_once bytes r s (inr (none, e)) (inl (g, there, d)) = absurd (none g there)
room_once bytes r s (inr (none, e)) (inr (nor, d)) = e ∙ sym d

-- there are as many places for outputs as a taken file has outputs
pub all_outputs : (bytes : List ℕ) (r : Room) (h : Header) → RoomFor bytes r → HeaderAt (lines bytes) h → h.outputs ≤ 4096 → r.outputs ≡ h.outputs
all_outputs bytes r h named at few = omega (arith, ap (λ (z : Room). z.outputs) (room_is bytes r h named at))

-- a taken file is taken wherever there is room
pub taken_in : (bytes : List ℕ) (graph places outs graph' places' outs' : ℕ) (h : Header) (is : List Item) → Taken bytes graph places outs h is → h.inputs ≡ graph' → h.max < places' → h.outputs ≤ outs' → Taken bytes graph' places' outs' h is
taken_in bytes graph places outs graph' places' outs' h is t inputs map outputs = record {
  opens = record {
    short = t.opens.short;
    header = t.opens.header;
    latches = t.opens.latches;
    within = t.opens.within;
    inputs = inputs;
    room = record { map = map; outputs = outputs };
  };
  whole = t.whole;
  outputs = t.outputs;
}

-- without a header, all four are zero
smallest : (bytes : List ℕ) (r : Room) → RoomFor bytes r → LeastRefused bytes r
smallest bytes r (inl (h, at, e)) none s = absurd (none h at)
smallest bytes r (inr (none, e)) _ s =
    (omega (arith, ap (λ (z : Room). z.inputs) e), omega (arith, ap (λ (z : Room). z.places) e), omega (arith, ap (λ (z : Room). z.outputs) e), omega (arith, ap (λ (z : Room). z.gates) e))

in_any : (bytes : List ℕ) (r : Room) → RoomFor bytes r → LeastTaken bytes r
in_any bytes r named graph places outs h is t =
    let e = room_is bytes r h named t.opens.header in
    let inputs_are : r.inputs ≡ (room_of h).inputs = ap (λ (z : Room). z.inputs) e in
    let places_are : r.places ≡ (room_of h).places = ap (λ (z : Room). z.places) e in
    let outputs_are : r.outputs ≡ (room_of h).outputs = ap (λ (z : Room). z.outputs) e in
    let gates_are : r.gates ≡ (room_of h).gates = ap (λ (z : Room). z.gates) e in (
      taken_in bytes graph places outs r.inputs r.places r.outputs h is t (omega arith) (omega (arith, t.opens.within.small.max)) (omega (arith, t.opens.within.small.outputs)),
      omega (arith, t.opens.room.map),
      omega (arith, t.opens.room.outputs),
      omega (arith, t.whole.count, t.opens.within.small.outputs, t.opens.within.small.ands),
    )

pub least : (bytes : List ℕ) (r : Room) → RoomFor bytes r → LeastRoom bytes r
least bytes r named = (in_any bytes r named, smallest bytes r named)
