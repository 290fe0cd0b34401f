-- What each line leaves in the map and the outputs, and how the check of one line answers.
-- What is noted is tied to what the lines define by Circuits.antt, where no map occurs.
use Rattle.std.specs.Prelude.{◌≡◌, ℕ, ◌+◌, ◌-◌, ◌*◌, ◌/◌, ◌<◌, ◌≤◌, List, [], ◌∷◌, get_or, Ok, Err, codes, Result, slice_index_or, slice_set}
use Rattle.rules.specs.declared.edge.Edge.{Edge}
use Rattle.rules.specs.Edges.{edge, false_edge, undefined_edge}
use Rattle.aiger_lines.specs.Forms.{Has, Lacks, form}
use Rattle.aiger_lines.specs.declared.fields.Header.{Header}
use Rattle.aiger_lines.specs.declared.fields.AndLine.{AndLine}
use Rattle.aiger_check.specs.declared.faults.LineFault.{LineFault}
use Rattle.aiger_check.specs.declared.faults.LineFault.TheVariants.{Form, Literal, Twice, Undefined, Full}
use Rattle.aiger_check.specs.Circuits.{Item, input, output, gate, Says, Good, Bad}

-- the header's numbers are within their limits
pub record Small (h : Header) : Type 0 where
  pub max : h.max ≤ 1004096
  pub inputs : h.inputs ≤ 4096
  pub outputs : h.outputs ≤ 4096
  pub ands : h.ands ≤ 1000000

-- the map notes that x is defined
abbrev pub Noted : List Edge → ℕ → Type 0
Noted m x = slice_index_or m x false_edge ≡ undefined_edge → ⊥

-- what item k leaves in the map: an input its edge, a gate the note edge 0
abbrev pub note : ℕ → Item → List Edge → List Edge
note k (input v) m = slice_set m (v / 2) (edge (2 * (k + 1)))
note k (output v) m = m
note k (gate a b c) m = slice_set m (a / 2) false_edge

unfoldable pub notes : ℕ → List Item → List Edge → List Edge
notes k [] m = m
notes k (i ∷ is) m = notes (k + 1) is (note k i m)

-- and in the outputs, which start after n items: an output its literal
abbrev pub put : ℕ → ℕ → Item → List Edge → List Edge
put n k (input v) o = o
put n k (output v) o = slice_set o (k - n) (edge v)
put n k (gate a b c) o = o

unfoldable pub puts : ℕ → ℕ → List Item → List Edge → List Edge
puts n k [] o = o
puts n k (i ∷ is) o = puts n (k + 1) is (put n k i o)

-- a line that holds one literal
abbrev pub One : ℕ → (ℕ → Type 0) → List ℕ → (ℕ → Item) → Result ℕ LineFault → Type 0
One max D bs f (Ok v) = Has (form (codes "\n")) bs (v ∷ []) × Good max D (f v)
One max D bs f (Err (Form e)) = Lacks (form (codes "\n")) bs e
One max D bs f (Err Literal) = (v : ℕ) × Has (form (codes "\n")) bs (v ∷ []) × Bad max D (f v) Literal
One max D bs f (Err Twice) = (v : ℕ) × Has (form (codes "\n")) bs (v ∷ []) × Bad max D (f v) Twice
One max D bs f (Err Undefined) = (v : ℕ) × Has (form (codes "\n")) bs (v ∷ []) × Bad max D (f v) Undefined
One max D bs f (Err Full) = ⊥

-- a gate's line as an item, and its numbers
abbrev pub of : AndLine → Item
of x = gate x.lhs x.left x.right

abbrev pub three : AndLine → List ℕ
three x = x.lhs ∷ x.left ∷ x.right ∷ []

-- a line that holds a gate
abbrev pub Three : ℕ → (ℕ → Type 0) → List ℕ → Result AndLine LineFault → Type 0
Three max D bs (Ok x) = Has (form (codes "  \n")) bs (three x) × Good max D (of x)
Three max D bs (Err (Form e)) = Lacks (form (codes "  \n")) bs e
Three max D bs (Err Literal) = (x : AndLine) × Has (form (codes "  \n")) bs (three x) × Bad max D (of x) Literal
Three max D bs (Err Twice) = (x : AndLine) × Has (form (codes "  \n")) bs (three x) × Bad max D (of x) Twice
Three max D bs (Err Undefined) = (x : AndLine) × Has (form (codes "  \n")) bs (three x) × Bad max D (of x) Undefined
Three max D bs (Err Full) = ⊥

-- line k is good against the map's notes, and the buffers get what it leaves
abbrev pub LinePassed : Header → ℕ → List ℕ → List Edge → List Edge → List Edge → List Edge → Type 0
LinePassed h k bs m o m' o' = (i : Item) × Says h k bs i × Good h.max (Noted m) i × (m' ≡ note k i m) × (o' ≡ put h.inputs k i o)

-- only the constant is noted
pub record Start (max : ℕ) (m : List Edge) : Type 0 where
  pub constant : get_or m 0 false_edge ≡ false_edge
  pub others : (x : ℕ) → 0 < x → x ≤ max → slice_index_or m x false_edge ≡ undefined_edge
