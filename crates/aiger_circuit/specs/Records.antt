-- A circuit as a record, the items that its file says, the theorem that each taken file holds one, and a worked one.
-- A circuit is lists of numbers here, without lines, and every taken file is one.
use Rattle.std.specs.Prelude.{◌≡◌, List, [], ◌∷◌, ◌++◌, map, ℕ, ◌*◌, length}
use Rattle.aiger_lines.specs.declared.fields.Header.{Header}
use Rattle.aiger_check.specs.Circuits.{Item, input, output, gate}
use Rattle.aiger_check.specs.Files.{Taken}

-- variable lhs is the AND of two literals
pub record Gate : Type 0 where
  pub lhs : ℕ
  pub left : ℕ
  pub right : ℕ

-- the largest variable, the variables of the inputs, the literals of the outputs, and the gates
pub record Circuit : Type 0 where
  pub max : ℕ
  pub inputs : List ℕ
  pub outputs : List ℕ
  pub gates : List Gate

-- each part as the item of its line
abbrev pub the_input : ℕ → Item
the_input v = input (2 * v)

abbrev pub the_gate : Gate → Item
the_gate g = gate (2 * g.lhs) g.left g.right

-- the header and the items of a circuit's file
abbrev pub header_of : Circuit → Header
header_of c = record { max = c.max; inputs = length c.inputs; latches = 0; outputs = length c.outputs; ands = length c.gates }

abbrev pub items_of : Circuit → List Item
items_of c = map the_input c.inputs ++ (map output c.outputs ++ map the_gate c.gates)

-- what is taken is a circuit
abbrev pub IsCircuit : Type 0
IsCircuit = (bs : List ℕ) (graph places outs : ℕ) (h : Header) (is : List Item) → Taken bs graph places outs h is → (c : Circuit) × (h ≡ header_of c) × (is ≡ items_of c)

-- inputs 1 and 2, the gate 3 = NOT 2 AND 1, and the output NOT 3
abbrev pub example : Circuit
example = record { max = 3; inputs = 1 ∷ 2 ∷ []; outputs = 7 ∷ []; gates = record { lhs = 3; left = 5; right = 2 } ∷ [] }

abbrev pub Worked : Type 0
Worked = (header_of example ≡ record { max = 3; inputs = 2; latches = 0; outputs = 1; ands = 1 }) × (items_of example ≡ input 2 ∷ input 4 ∷ output 7 ∷ gate 6 5 2 ∷ [])
