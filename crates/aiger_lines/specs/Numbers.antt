-- A number at the front of bytes: one to seven digits, no leading zero; and what can be wrong with it.
-- A number is said by its decimal text, and a fault by the first bytes; nothing is said of reading.
use Rattle.std.specs.Prelude.{◌≡◌, ℕ, ◌^◌, ◌<◌, ◌≤◌, List, [], ◌++◌, length, take, Ok, Err, decimal, Result, ◌≢◌, slice_index}
use Rattle.std.specs.Borrow.{Bor}
use Rattle.std.specs.Str.Parse.{digits_value}
use Rattle.std.specs.Int.{IsInRange}
use Rattle.aiger_lines.specs.declared.number.DigitFault.{DigitFault}
use Rattle.aiger_lines.specs.declared.number.DigitFault.TheVariants.{NoDigit, LeadingZero, TooLong, Other}

-- `0` to `9`
abbrev pub Digit : ℕ → Type 0
Digit b = IsInRange 48 57 b

-- each byte is a digit
abbrev pub AllDigits : List ℕ → Type 0
AllDigits bs = (k : ℕ) → k < length bs → Digit (slice_index bs k)

-- the first n bytes are digits, and no more of them; v is the number that they write where they are at most seven
pub record DigitRun (bs : List ℕ) (n v : ℕ) : Type 0 where
  pub within : n ≤ length bs
  pub all : (k : ℕ) → k < n → Digit (slice_index bs k)
  pub stops : n < length bs → Digit (slice_index bs n) → ⊥
  pub writes : n ≤ 7 → v ≡ digits_value 10 (take n bs)

-- the first n bytes are there and are digits
abbrev pub DigitsAtFront : ℕ → List ℕ → Type 0
DigitsAtFront n bs = (n ≤ length bs) × ((k : ℕ) → k < n → Digit (slice_index bs k))

-- which fault bytes have, where a number is due at their front
abbrev pub DigitFaultAt : List ℕ → DigitFault → Type 0
DigitFaultAt bs NoDigit = (0 < length bs) × (Digit (slice_index bs 0) → ⊥)
DigitFaultAt bs LeadingZero = (slice_index bs 0 ≡ 48) × DigitsAtFront 2 bs
DigitFaultAt bs TooLong = (slice_index bs 0 ≢ 48) × DigitsAtFront 8 bs
DigitFaultAt bs Other = bs ≡ []

-- the faults by their numbers
abbrev pub digit_number : DigitFault → ℕ
digit_number NoDigit = 1
digit_number LeadingZero = 2
digit_number TooLong = 3
digit_number Other = 4

-- the number v stands at the front of bs, and rest follows it
pub record NumberAt (bs : List ℕ) (v : ℕ) (rest : List ℕ) : Type 0 where
  pub text : bs ≡ decimal v ++ rest
  pub short : v < 10 ^ 7
  pub whole : 0 < length rest → Digit (slice_index rest 0) → ⊥

-- how the reading of a number answers
abbrev pub NumberRead : List ℕ → Result (ℕ × Bor (List ℕ)) DigitFault → Type 0
NumberRead bs (Ok x) = NumberAt bs x.0 x.1.now
NumberRead bs (Err e) = DigitFaultAt bs e
