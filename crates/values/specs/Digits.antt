-- The binary digits of a number, from the lowest, and what AND and NOT make of them.
-- A digit is the usual one, and the rest is proved from it.
use Rattle.std.specs.Prelude.{◌≡◌, ℕ, zero, suc, ◌+◌, ◌-◌, ◌*◌, ◌/◌, ◌%◌, ◌^◌, ◌<◌, Bool, true, false, cond, not, ◌&&◌, ◌==◌, nat_eq, refl, if◌then◌else◌}
use Rattle.std.specs.Int.{bit_at}
use Rattle.std.specs.Int.Bits.{bit_and}
use Rattle.std.proofs.Common.{ap, ◌∙◌, sym, mod-lt, pow-suc, zero-lt-suc, arith}
use Rattle.std.proofs.lemmas.Nat.{and_shr, and_mod}
use Rattle.std.proofs.lemmas.Bool.Decides.{nat_tests}
use Rattle.std.proofs.lemmas.Nat.Bits.{bit_at-suc, bit_at-zero, bit_at-lt, same_from_bits_below}

-- digit i of n
abbrev pub digit : ℕ → ℕ → Bool
digit n i = n / 2 ^ i % 2 == 1

two : zero < 2
two = zero-lt-suc 1

bit_and_of_digits : (p q : ℕ) → p < 2 → q < 2 → (bit_and p q == 1) ≡ (p == 1 && q == 1)
bit_and_of_digits zero q hp hq = refl
bit_and_of_digits (suc zero) zero hp hq = refl
bit_and_of_digits (suc zero) (suc zero) hp hq = refl
bit_and_of_digits (suc zero) (suc (suc q)) hp hq = absurd (omega arith)
bit_and_of_digits (suc (suc p)) q hp hq = absurd (omega arith)

pub digit_and : (a b i : ℕ) → digit (bit_and a b) i ≡ (digit a i && digit b i)
digit_and a b i =
    ap (λ (n : ℕ). nat_eq (n % 2) 1) (and_shr a b i) ∙ ap (λ (n : ℕ). nat_eq n 1) (and_mod (a / 2 ^ i) (b / 2 ^ i) 1)
    ∙ bit_and_of_digits (a / 2 ^ i % 2) (b / 2 ^ i % 2) (mod-lt (a / 2 ^ i) two) (mod-lt (b / 2 ^ i) two)

pub digit_suc : (n i : ℕ) → digit n (suc i) ≡ digit (n / 2) i
digit_suc n i = ap (λ (d : ℕ). nat_eq d 1) (bit_at-suc n i)

pub digit_zero : (i : ℕ) → digit 0 i ≡ false
digit_zero i = ap (λ (d : ℕ). nat_eq d 1) (bit_at-zero i)

bit_not : (p : ℕ) → p < 2 → (1 - p == 1) ≡ not (p == 1)
bit_not p h = grind (arith, nat_tests)

pub digit_not : (k a i : ℕ) → i < k → a < 2 ^ k → digit ((2 ^ k - 1) - a) i ≡ not (digit a i)
digit_not zero a i h l = absurd (omega arith)
digit_not (suc k) a zero h l =
    let p : 2 ^ suc k ≡ 2 ^ k * 2 = pow-suc 2 k in
    let e : (2 ^ suc k - 1 - a) / 1 % 2 ≡ 1 - a / 1 % 2 = omega arith in
    ap (λ (n : ℕ). nat_eq n 1) e ∙ bit_not (a / 1 % 2) (bit_at-lt a 0)
digit_not (suc k) a (suc i) h l =
    let p : 2 ^ suc k ≡ 2 ^ k * 2 = pow-suc 2 k in
    let e : (2 ^ suc k - 1 - a) / 2 ≡ 2 ^ k - 1 - a / 2 = omega arith in
    digit_suc (2 ^ suc k - 1 - a) i ∙ ap (λ (n : ℕ). digit n i) e ∙ digit_not k (a / 2) i (omega arith) (omega arith) ∙ ap not (sym (digit_suc a i))

bit_same : (p q : ℕ) → p < 2 → q < 2 → (p == 1) ≡ (q == 1) → p ≡ q
bit_same p q hp hq e = grind (arith, nat_tests)

pub same_digits : (k a b : ℕ) → a < 2 ^ k → b < 2 ^ k → ((i : ℕ) → i < k → digit a i ≡ digit b i) → a ≡ b
same_digits k a b ha hb h =
    same_from_bits_below k a b ha hb (λ i l. bit_same (bit_at a i) (bit_at b i) (bit_at-lt a i) (bit_at-lt b i) (h i l))

-- the number of n digits whose digit i is f i
unfoldable pub pack : (ℕ → Bool) → ℕ → ℕ
pack f zero = 0
pack f (suc n) = 2 * pack (λ i. f (suc i)) n + (if f 0 then 1 else 0)

cond_lt : (b : Bool) → cond b 1 0 < 2
cond_lt true = omega arith
cond_lt false = omega arith

cond_digit : (b : Bool) → (cond b 1 0 == 1) ≡ b
cond_digit true = refl
cond_digit false = refl

pub pack_lt : (f : ℕ → Bool) (n : ℕ) → pack f n < 2 ^ n
unfolding pack
pack_lt f zero = omega arith
pack_lt f (suc n) = omega (arith, pack_lt (λ i. f (suc i)) n, cond_lt (f 0), pow-suc 2 n)

pub digit_pack : (f : ℕ → Bool) (n i : ℕ) → i < n → digit (pack f n) i ≡ f i
unfolding pack
digit_pack f zero i h = absurd (omega arith)
digit_pack f (suc n) zero h =
    let e : (2 * pack (λ i. f (suc i)) n + cond (f 0) 1 0) / 1 % 2 ≡ cond (f 0) 1 0 = omega (arith, cond_lt (f 0)) in
    ap (λ (m : ℕ). nat_eq m 1) e ∙ cond_digit (f 0)
digit_pack f (suc n) (suc i) h =
    let e : (2 * pack (λ i. f (suc i)) n + cond (f 0) 1 0) / 2 ≡ pack (λ i. f (suc i)) n = omega (arith, cond_lt (f 0)) in
    digit_suc _ i ∙ ap (λ (m : ℕ). digit m i) e ∙ digit_pack (λ i. f (suc i)) n i (omega arith)
