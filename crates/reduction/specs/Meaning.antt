-- What a reduced circuit says, beside the file that it was made of.
-- It speaks of what two files say by themselves; no graph occurs in it.
use Rattle.std.specs.Prelude.{◌≡◌, ℕ, ◌+◌, ◌<◌, List, slice_index_or}
use Rattle.values.specs.Algebra.{BooleanAlgebra}
use Rattle.aiger_lines.specs.declared.fields.Header.{Header}
use Rattle.aiger_check.specs.Circuits.{Item, nothing}
use Rattle.aiger_check.specs.Files.{Taken, literal}
use Rattle.aiger_read.specs.Meaning.{lit, Satisfies}

-- a file that is taken where there is just the room for it, with its header and its items
pub record Circuit (bytes : List ℕ) : Type 0 where
  pub header : Header
  pub items : List Item
  pub taken : Taken bytes header.inputs (header.max + 1) header.outputs header items

-- the value of output j, where w has the values of the variables
abbrev pub output_value : {V : Type 0} → BooleanAlgebra V → Header → List Item → (ℕ → V) → ℕ → V
output_value k h is w j = lit k w (literal (slice_index_or is (h.inputs + j) nothing))

-- the text has as many inputs and outputs as the file, and under every assignment each output has the same value
pub record SaysSame {V : Type 0} (k : BooleanAlgebra V) (bytes text : List ℕ) : Type 0 where
  pub file : Circuit bytes
  pub reduced : Circuit text
  pub inputs : reduced.header.inputs ≡ file.header.inputs
  pub outputs : reduced.header.outputs ≡ file.header.outputs
  pub values : (j : ℕ) → j < file.header.outputs → (ρ w v : ℕ → V) → Satisfies k file.items ρ w → Satisfies k reduced.items ρ v → output_value k reduced.header reduced.items v j ≡ output_value k file.header file.items w j
