-- Bits that are packed into a number one by one, from the lowest.
use Rattle.std.proofs.Common.{◌≡◌, ℕ, zero, suc, ◌+◌, ◌-◌, ◌*◌, ◌%◌, ◌^◌, ◌<◌, ◌≤◌, Bool, true, false, cond, List, [], length, get_or, sym, ap, ◌∙◌, arith, pow-suc, pow_mono, Bor}
use Rattle.std.proofs.Math.Pow.{pow-lt}
use Rattle.std.proofs.lemmas.Bool.{cond-true, cond-false}
use Rattle.std.proofs.lemmas.List.{length-map, get_or_past, get_or-map}
use Rattle.values.specs.Digits.{pack, pack_lt}
use Rattle.simulation.specs.Columns.{set_at, shown}

doubled : (b : Bool) (a c : ℕ) → c ≡ a * 2 → cond b c 0 ≡ 2 * cond b a 0
doubled true a c e = omega (arith, e)
doubled false a c e = omega arith

-- one bit more
pub pack_more : (f : ℕ → Bool) (n : ℕ) → pack f (n + 1) ≡ pack f n + cond (f n) (2 ^ n) 0
unfolding pack
pack_more f zero = omega arith
pack_more f (suc n) =
    let e : suc n + 1 ≡ suc (n + 1) = omega arith in
    let r = pack_more (λ i. f (suc i)) n in
    ap (pack f) e ∙ omega (arith, r, doubled (f (suc n)) (2 ^ n) (2 ^ suc n) (pow-suc 2 n))

-- bits that are false add nothing
pub pack_past : (f : ℕ → Bool) (n k : ℕ) → ((i : ℕ) → n ≤ i → f i ≡ false) → pack f (n + k) ≡ pack f n
pack_past f n zero h = let e : n + 0 ≡ n = omega arith in ap (pack f) e
pack_past f n (suc k) h =
    let e : n + suc k ≡ (n + k) + 1 = omega arith in
    ap (pack f) e ∙ omega (arith, pack_more f (n + k), cond-false (f (n + k)) (2 ^ (n + k)) 0 (h (n + k) (omega arith)), pack_past f n k h)

pub pack_all : (f : ℕ → Bool) (n m : ℕ) → n ≤ m → ((i : ℕ) → n ≤ i → f i ≡ false) → pack f m ≡ pack f n
pack_all f n m l h = let e : m ≡ n + (m - n) = omega arith in ap (pack f) e ∙ pack_past f n (m - n) h

-- the next bit's place as a number, and that it fits above the bits before it
pub place : (i : ℕ) → i < 64 → 1 * 2 ^ i % 18446744073709551616 ≡ 2 ^ i
place i h = let l : 2 ^ i < 2 ^ 64 = pow-lt h in omega (arith, l)

pub place_fits : (f : ℕ → Bool) (i n : ℕ) → i < 64 → n ≡ pack f i → n + 1 * 2 ^ i % 18446744073709551616 < 2 ^ 64
place_fits f i n h e =
    let up : suc i ≤ 64 = omega arith in
    let l : 2 ^ suc i ≤ 2 ^ 64 = pow_mono up in
    omega (arith, place i h, pack_lt f i, l, pow-suc 2 i)

pub placed : (f : ℕ → Bool) (i n : ℕ) → i < 64 → n ≡ pack f i → f i ≡ true → n + 1 * 2 ^ i % 18446744073709551616 ≡ pack f (i + 1)
placed f i n h e t = omega (arith, place i h, pack_more f i, cond-true (f i) (2 ^ i) 0 t)

pub passed : (f : ℕ → Bool) (i n : ℕ) → n ≡ pack f i → f i ≡ false → n ≡ pack f (i + 1)
passed f i n e t = omega (arith, pack_more f i, cond-false (f i) (2 ^ i) 0 t)

-- no frame, no bit
pub none_past : (ls : List (Bor (List ℕ))) (j i : ℕ) → length ls ≤ i → set_at (get_or (shown ls) i []) j ≡ false
none_past ls j i h = ap (λ (f : List ℕ). set_at f j) (get_or_past (shown ls) i [] (omega (arith, length-map ls (λ (l : Bor (List ℕ)). l.now))))

pub shown_at : (ls : List (Bor (List ℕ))) (i : ℕ) (d : Bor (List ℕ)) → i < length ls → get_or (shown ls) i [] ≡ (get_or ls i d).now
shown_at ls i d h = get_or-map (λ (l : Bor (List ℕ)). l.now) ls i d [] h

-- a digit that was read of frame i is that of the list of frames
pub digit_read : (ls : List (Bor (List ℕ))) (i j : ℕ) (d : Bor (List ℕ)) (r b : Bool) → i < length ls → r ≡ set_at (get_or ls i d).now j → r ≡ b → set_at (get_or (shown ls) i []) j ≡ b
digit_read ls i j d r b h e is = ap (λ (f : List ℕ). set_at f j) (shown_at ls i d h) ∙ sym e ∙ is
