-- The forms of lines: what parts a line has from left to right, and which fault comes first.
-- `Has` and `Lacks` go from left to right, as the format does; that a file has one answer rests on both (`OneAnswer`).
use Rattle.std.specs.Prelude.{◌≡◌, ℕ, ◌<◌, ◌⊎◌, List, [], ◌∷◌, length}
use Rattle.aiger_lines.specs.Numbers.{NumberAt, DigitFaultAt}
use Rattle.aiger_lines.specs.declared.number.DigitFault.{DigitFault}
use Rattle.aiger_lines.specs.declared.number.DigitFault.TheVariants.{Other}

-- a part of a line: a number, or the byte b
pub data Part : Type 0 where
  num : Part
  byte : ℕ → Part

abbrev pub Starts : ℕ → List ℕ → List ℕ → Type 0
Starts b bs rest = bs ≡ b ∷ rest

-- bs consists of these parts, with the numbers vs
abbrev pub Has : List Part → List ℕ → List ℕ → Type 0
Has [] bs vs = (bs ≡ []) × (vs ≡ [])
Has (num ∷ ps) bs [] = ⊥
Has (num ∷ ps) bs (v ∷ vs) = (rest : List ℕ) × NumberAt bs v rest × Has ps rest vs
Has (byte b ∷ ps) bs vs = (rest : List ℕ) × Starts b bs rest × Has ps rest vs

-- e is the first fault, from the left, where these parts are due
abbrev pub Lacks : List Part → List ℕ → DigitFault → Type 0
Lacks [] bs e = (0 < length bs) × (e ≡ Other)
Lacks (num ∷ ps) bs e = DigitFaultAt bs e ⊎ ((v : ℕ) × (rest : List ℕ) × NumberAt bs v rest × Lacks ps rest e)
Lacks (byte b ∷ ps) bs e = ((e ≡ Other) × ((rest : List ℕ) → Starts b bs rest → ⊥)) ⊎ ((rest : List ℕ) × Starts b bs rest × Lacks ps rest e)

-- a number before each of these bytes
abbrev pub form : List ℕ → List Part
form [] = []
form (b ∷ bs) = num ∷ byte b ∷ form bs
