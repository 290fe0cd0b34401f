-- Lines of numbers.
-- The forms are the format's, a number before each byte.
use Rattle.std.specs.Prelude.{ℕ, List, [], ◌∷◌, Ok, Err, codes, Result}
use Rattle.aiger_lines.specs.declared.number.DigitFault.{DigitFault}
use Rattle.aiger_lines.specs.declared.fields.Header.{Header}
use Rattle.aiger_lines.specs.declared.fields.AndLine.{AndLine}
use Rattle.aiger_lines.specs.Forms.{Has, Lacks, form}

abbrev pub FieldsRead : List ℕ → List ℕ → Result (List ℕ) DigitFault → Type 0
FieldsRead bs ends (Ok vs) = Has (form ends) bs vs
FieldsRead bs ends (Err e) = Lacks (form ends) bs e

-- what follows "aag ": M I L O A, one space before each but the first
abbrev pub HeaderRead : List ℕ → Result Header DigitFault → Type 0
HeaderRead bs (Ok h) = Has (form (codes "    \n")) bs (h.max ∷ h.inputs ∷ h.latches ∷ h.outputs ∷ h.ands ∷ [])
HeaderRead bs (Err e) = Lacks (form (codes "    \n")) bs e

abbrev pub AndRead : List ℕ → Result AndLine DigitFault → Type 0
AndRead bs (Ok x) = Has (form (codes "  \n")) bs (x.lhs ∷ x.left ∷ x.right ∷ [])
AndRead bs (Err e) = Lacks (form (codes "  \n")) bs e
