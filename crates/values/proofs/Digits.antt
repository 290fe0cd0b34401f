-- Digits past a number's length.
use Rattle.std.proofs.Common.{◌≡◌, ℕ, ◌^◌, ◌<◌, ◌≤◌, false, eqb, ap}
use Rattle.std.proofs.lemmas.Nat.Bits.{bit_at_above}
use Rattle.values.specs.Digits.{digit}

pub digit_past : (k n i : ℕ) → n < 2 ^ k → k ≤ i → digit n i ≡ false
digit_past k n i h l = ap (λ (d : ℕ). eqb d 1) (bit_at_above n k i h l)
