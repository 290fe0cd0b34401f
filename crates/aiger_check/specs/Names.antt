-- The lines after the gates: names, and the line that ends the checked part.
-- A name's line is said by its parts, and a fault by the first part that is missing.
use Rattle.std.specs.Prelude.{◌≡◌, ℕ, ◌<◌, ◌≤◌, ◌⊎◌, List, [], ◌∷◌, ◌++◌, length, get_or, codes, ◌≢◌, slice_index_or}
use Rattle.aiger_lines.specs.Numbers.{NumberAt, DigitFaultAt}
use Rattle.aiger_lines.specs.declared.number.DigitFault.{DigitFault}
use Rattle.aiger_lines.specs.declared.number.DigitFault.TheVariants.{Other}
use Rattle.aiger_lines.specs.declared.fields.Header.{Header}

-- letter c names one of count things
abbrev pub Letter : Header → ℕ → ℕ → Type 0
Letter h c count = ((c ≡ 105) × (count ≡ h.inputs)) ⊎ ((c ≡ 111) × (count ≡ h.outputs))

-- a space, one byte or more, and the line's end
abbrev pub Named : List ℕ → Type 0
Named bs = (name : List ℕ) × (bs ≡ 32 ∷ (name ++ (10 ∷ []))) × (0 < length name)

pub record NameLine (h : Header) (bs : List ℕ) : Type 0 where
  pub letter : ℕ
  pub count : ℕ
  pub index : ℕ
  pub digits : List ℕ
  pub name : List ℕ
  pub kind : Letter h letter count
  pub starts : bs ≡ letter ∷ digits
  pub number : NumberAt digits index name
  pub below : index < count
  pub named : Named name

-- the first fault of a line where a name is due
pub data NameFault (h : Header) (bs : List ℕ) : DigitFault → Type 0 where
  no_letter : ((c n : ℕ) (rest : List ℕ) → Letter h c n → bs ≢ c ∷ rest) → NameFault h bs Other
  no_index : (c n : ℕ) (rest : List ℕ) (e : DigitFault) → Letter h c n → bs ≡ c ∷ rest → DigitFaultAt rest e → NameFault h bs e
  no_name : (c n : ℕ) (rest : List ℕ) (v : ℕ) (more : List ℕ) → Letter h c n → bs ≡ c ∷ rest → NumberAt rest v more → (v < n → Named more → ⊥) → NameFault h bs Other

abbrev pub comment : List ℕ
comment = codes "c\n"

-- the lines from n to m are names
abbrev pub NamesTo : Header → List (List ℕ) → ℕ → ℕ → Type 0
NamesTo h ls n m = (j : ℕ) → n ≤ j → j < m → NameLine h (slice_index_or ls j [])

-- from line n on there are names, to the file's end or to a comment
pub record TailGood (h : Header) (ls : List (List ℕ)) (n : ℕ) : Type 0 where
  pub stop : ℕ
  pub names : NamesTo h ls n stop
  pub after : n ≤ stop
  pub ends : (length ls ≤ stop) ⊎ (slice_index_or ls stop [] ≡ comment)

-- line m is the first from n on that is neither
pub record TailBad (h : Header) (ls : List (List ℕ)) (n m : ℕ) (e : DigitFault) : Type 0 where
  pub names : NamesTo h ls n m
  pub after : n ≤ m
  pub within : m < length ls
  pub more : get_or ls m [] ≡ comment → ⊥
  pub fault : NameFault h (slice_index_or ls m []) e
