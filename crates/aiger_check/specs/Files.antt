-- A circuit file as a whole: which bytes are taken, and which refusal any others get.
-- Every refusal names its cause and that the causes before it are absent; no file has two answers (Once.antt), and written text is taken.
use Rattle.std.specs.Prelude.{◌≡◌, ℕ, ◌+◌, ◌/◌, ◌<◌, ◌≤◌, List, [], ◌∷◌, ◌++◌, length, drop, replicate, codes, ◌≢◌, slice_index_or}
use Rattle.rules.specs.Edges.{undefined_edge}
use Rattle.aiger_lines.specs.declared.number.DigitFault.{DigitFault}
use Rattle.rules.specs.declared.edge.Edge.{Edge}
use Rattle.aiger_lines.specs.Forms.{Has, form}
use Rattle.aiger_check.specs.Text.{lines}
use Rattle.aiger_lines.specs.declared.fields.Header.{Header}
use Rattle.aiger_check.specs.declared.faults.LineFault.{LineFault}
use Rattle.aiger_check.specs.declared.faults.LineFault.TheVariants.{Form, Undefined}
use Rattle.aiger_check.specs.declared.faults.AtLine.{AtLine}
use Rattle.aiger_check.specs.Circuits.{Item, input, output, gate, total, Faulty, Defined, Begins, nothing}
use Rattle.aiger_check.specs.Checks.{Small}
use Rattle.aiger_check.specs.declared.faults.CircuitFault.{CircuitFault}
use Rattle.aiger_check.specs.declared.faults.CircuitFault.TheVariants.{TooLarge, NoHeader, Latches, Limits, Inputs, Room, Line}
use Rattle.aiger_check.specs.Names.{TailGood, TailBad}

-- `aag`, then M I L O A, one space before each
pub record HeaderLine (bs : List ℕ) (h : Header) : Type 0 where
  pub rest : List ℕ
  pub starts : bs ≡ codes "aag " ++ rest
  pub numbers : Has (form (codes "    \n")) rest (h.max ∷ h.inputs ∷ h.latches ∷ h.outputs ∷ h.ands ∷ [])

abbrev pub HeaderAt : List (List ℕ) → Header → Type 0
HeaderAt ls h = HeaderLine (slice_index_or ls 0 []) h

pub record Within (h : Header) : Type 0 where
  pub enough : h.inputs + h.ands ≤ h.max
  pub small : Small h

pub record Holds (places outs : ℕ) (h : Header) : Type 0 where
  pub map : h.max < places
  pub outputs : h.outputs ≤ outs

-- the file passes every test on its header
pub record Opens (bs : List ℕ) (graph places outs : ℕ) (h : Header) : Type 0 where
  pub short : length bs ≤ 1048576
  pub header : HeaderAt (lines bs) h
  pub latches : h.latches ≡ 0
  pub within : Within h
  pub inputs : h.inputs ≡ graph
  pub room : Holds places outs h

-- an output's literal
abbrev pub literal : Item → ℕ
literal (input v) = 0
literal (output v) = v
literal (gate a b c) = 0

-- output j (from 0) names a variable that is defined
abbrev pub OutputDefined : Header → List Item → ℕ → Type 0
OutputDefined h is j = Defined is (literal (slice_index_or is (h.inputs + j) nothing) / 2)

-- the items of all lines below the header, each good
pub record Whole (h : Header) (ls : List (List ℕ)) (is : List Item) : Type 0 where
  pub count : length is ≡ total h
  pub begins : Begins h ls is
  pub tail : TailGood h ls (total h + 1)

-- the first fault below the header
pub data LinesFault (h : Header) (ls : List (List ℕ)) : AtLine → Type 0 where
  in_line : (is : List Item) (f : LineFault) (n : ℕ) → length is < total h → Begins h ls is → Faulty h (length is) (slice_index_or ls (1 + length is) []) (Defined is) f → n ≡ length is + 2 → LinesFault h ls (record { line = n; fault = f })
  in_name : (is : List Item) (m : ℕ) (e : DigitFault) (n : ℕ) → length is ≡ total h → Begins h ls is → TailBad h ls (total h + 1) m e → n ≡ m + 1 → LinesFault h ls (record { line = n; fault = Form e })
  in_output : (is : List Item) (j : ℕ) (n : ℕ) → Whole h ls is → j < h.outputs → ((i : ℕ) → i < j → OutputDefined h is i) → (OutputDefined h is j → ⊥) → n ≡ h.inputs + j + 2 → LinesFault h ls (record { line = n; fault = Undefined })

-- the file is taken, and its lines say these items
pub record Taken (bs : List ℕ) (graph places outs : ℕ) (h : Header) (is : List Item) : Type 0 where
  pub opens : Opens bs graph places outs h
  pub whole : Whole h (lines bs) is
  pub outputs : (j : ℕ) → j < h.outputs → OutputDefined h is j

abbrev pub Refused : List ℕ → ℕ → ℕ → ℕ → CircuitFault → Type 0
Refused bs graph places outs TooLarge = 1048576 < length bs
Refused bs graph places outs NoHeader = (length bs ≤ 1048576) × ((h : Header) → HeaderAt (lines bs) h → ⊥)
Refused bs graph places outs Latches = (length bs ≤ 1048576) × ((h : Header) × HeaderAt (lines bs) h × (h.latches ≢ 0))
Refused bs graph places outs Limits = (length bs ≤ 1048576) × ((h : Header) × HeaderAt (lines bs) h × (h.latches ≡ 0) × (Within h → ⊥))
Refused bs graph places outs Inputs = (length bs ≤ 1048576) × ((h : Header) × HeaderAt (lines bs) h × (h.latches ≡ 0) × Within h × (h.inputs ≢ graph))
Refused bs graph places outs Room = (length bs ≤ 1048576) × ((h : Header) × HeaderAt (lines bs) h × (h.latches ≡ 0) × Within h × (h.inputs ≡ graph) × (Holds places outs h → ⊥))
Refused bs graph places outs (Line f) = (h : Header) × Opens bs graph places outs h × LinesFault h (lines bs) f

-- the first n places become undefined, and those beyond are kept
abbrev pub marked : ℕ → List Edge → List Edge
marked n xs = replicate n undefined_edge ++ drop n xs
