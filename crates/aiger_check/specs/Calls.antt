-- How the calls of the check answer, and what they leave in the buffers.
-- A relation between bytes, buffers before and after, and answer; that it allows one answer is proved (Once.antt).
use Rattle.std.specs.Prelude.{◌≡◌, ℕ, ◌+◌, ◌/◌, ◌<◌, List, ◌∷◌, length, get_or, drop, Some, None, Ok, Err, Option, Result, ◌≢◌, slice_index_or, slice_set}
use Rattle.std.specs.Borrow.{Bor}
use Rattle.rules.specs.declared.edge.Edge.{Edge}
use Rattle.rules.specs.Edges.{false_edge, undefined_edge}
use Rattle.aiger_lines.specs.declared.number.DigitFault.{DigitFault}
use Rattle.aiger_lines.specs.declared.fields.Header.{Header}
use Rattle.aiger_check.specs.declared.faults.LineFault.TheVariants.{Undefined}
use Rattle.aiger_check.specs.declared.faults.AtLine.{AtLine}
use Rattle.aiger_check.specs.Circuits.{Item, Begins}
use Rattle.aiger_check.specs.Checks.{Noted, notes, puts}
use Rattle.aiger_check.specs.declared.faults.CircuitFault.{CircuitFault}
use Rattle.aiger_check.specs.declared.faults.CircuitFault.TheVariants.{TooLarge, NoHeader, Latches, Limits, Inputs, Room, Line}
use Rattle.aiger_check.specs.Names.{Letter, NameLine, NameFault}
use Rattle.aiger_check.specs.Files.{HeaderLine, Within, Holds, LinesFault, Whole, OutputDefined, Taken, Refused, Opens, marked}
use Rattle.aiger_check.specs.Text.{lines}

-- a line where a name is due
abbrev pub NameChecked : Header → List ℕ → Result (Unit {0}) DigitFault → Type 0
NameChecked h bs (Ok u) = NameLine h bs
NameChecked h bs (Err e) = NameFault h bs e

-- the header that a line holds, if any
abbrev pub HeaderOf : List ℕ → Option Header → Type 0
HeaderOf bs None = (h : Header) → HeaderLine bs h → ⊥
HeaderOf bs (Some h) = HeaderLine bs h

-- how many things the first letter can name, and what follows it
abbrev pub Lettered : Header → List ℕ → Option (ℕ × Bor (List ℕ)) → Type 0
Lettered h bs None = (c n : ℕ) (rest : List ℕ) → Letter h c n → bs ≢ c ∷ rest
Lettered h bs (Some x) = (c : ℕ) × Letter h c x.0 × (bs ≡ c ∷ x.1.now)

-- the tests on the header, in order
abbrev pub Tested : Header → ℕ → ℕ → ℕ → Result (Unit {0}) CircuitFault → Type 0
Tested h graph places outs (Ok u) = (h.latches ≡ 0) × Within h × (h.inputs ≡ graph) × Holds places outs h
Tested h graph places outs (Err TooLarge) = ⊥
Tested h graph places outs (Err NoHeader) = ⊥
Tested h graph places outs (Err Latches) = h.latches ≡ 0 → ⊥
Tested h graph places outs (Err Limits) = (h.latches ≡ 0) × (Within h → ⊥)
Tested h graph places outs (Err Inputs) = (h.latches ≡ 0) × Within h × (h.inputs ≢ graph)
Tested h graph places outs (Err Room) = (h.latches ≡ 0) × Within h × (h.inputs ≡ graph) × (Holds places outs h → ⊥)
Tested h graph places outs (Err (Line f)) = ⊥

-- the outputs' literals stand in o, and the map notes what is defined
abbrev pub OutputsChecked : Header → List Edge → List Edge → Result (Unit {0}) AtLine → Type 0
OutputsChecked h m o (Ok u) = (j : ℕ) → j < h.outputs → Noted m ((get_or o j false_edge).0 / 2)
OutputsChecked h m o (Err f) = (j : ℕ) × (j < h.outputs) × ((i : ℕ) → i < j → Noted m ((get_or o i false_edge).0 / 2)) × (slice_index_or m ((get_or o j false_edge).0 / 2) false_edge ≡ undefined_edge) × (f ≡ record { line = h.inputs + j + 2; fault = Undefined })

-- the map at first: only the constant's place is defined
abbrev pub opened : ℕ → List Edge → List Edge
opened max m = slice_set (marked (max + 1) m) 0 false_edge

-- the items of all number lines, and names after them; or the first fault, and the items before it
abbrev pub LinesRead : Header → List (List ℕ) → List Edge → List Edge → Result (Unit {0}) AtLine → List Edge → List Edge → Type 0
LinesRead h ls m o (Ok u) m' o' = (is : List Item) × Whole h ls is × (m' ≡ notes 0 is m) × (o' ≡ puts h.inputs 0 is o)
LinesRead h ls m o (Err f) m' o' = (is : List Item) × Begins h ls is × LinesFault h ls f × (m' ≡ notes 0 is m) × (o' ≡ puts h.inputs 0 is o)

-- the file is good below its header, and the buffers hold what its items leave
abbrev pub Accepted : Header → List (List ℕ) → List Edge → List Edge → List Edge → List Edge → Type 0
Accepted h ls m o m' o' = (is : List Item) × Whole h ls is × ((j : ℕ) → j < h.outputs → OutputDefined h is j) × (m' ≡ notes 0 is (opened h.max m)) × (o' ≡ puts h.inputs 0 is o)

-- everything below the header, before the buffers are cleared where it is refused
abbrev pub SectionsChecked : Header → List (List ℕ) → List Edge → List Edge → Result (Unit {0}) AtLine → List Edge → List Edge → Type 0
SectionsChecked h ls m o (Ok u) m' o' = Accepted h ls m o m' o'
SectionsChecked h ls m o (Err f) m' o' = LinesFault h ls f × (drop (h.max + 1) m' ≡ drop (h.max + 1) m) × (drop h.outputs o' ≡ drop h.outputs o)

-- the file's answer, and what becomes of the buffers: nothing before the header is taken; after a fault below it the places that the header asks for are undefined
abbrev pub Checked : List ℕ → ℕ → List Edge → List Edge → Result Header CircuitFault → List Edge → List Edge → Type 0
Checked bs graph m o (Ok h) m' o' = (is : List Item) × Taken bs graph (length m) (length o) h is × (m' ≡ notes 0 is (opened h.max m)) × (o' ≡ puts h.inputs 0 is o)
Checked bs graph m o (Err TooLarge) m' o' = Refused bs graph (length m) (length o) TooLarge × (m' ≡ m) × (o' ≡ o)
Checked bs graph m o (Err NoHeader) m' o' = Refused bs graph (length m) (length o) NoHeader × (m' ≡ m) × (o' ≡ o)
Checked bs graph m o (Err Latches) m' o' = Refused bs graph (length m) (length o) Latches × (m' ≡ m) × (o' ≡ o)
Checked bs graph m o (Err Limits) m' o' = Refused bs graph (length m) (length o) Limits × (m' ≡ m) × (o' ≡ o)
Checked bs graph m o (Err Inputs) m' o' = Refused bs graph (length m) (length o) Inputs × (m' ≡ m) × (o' ≡ o)
Checked bs graph m o (Err Room) m' o' = Refused bs graph (length m) (length o) Room × (m' ≡ m) × (o' ≡ o)
Checked bs graph m o (Err (Line f)) m' o' = (h : Header) × Opens bs graph (length m) (length o) h × LinesFault h (lines bs) f × (m' ≡ marked (h.max + 1) m) × (o' ≡ marked h.outputs o)
