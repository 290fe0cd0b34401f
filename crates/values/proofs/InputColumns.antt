-- The inputs over a block of assignments.
use Rattle.std.proofs.Common.{◌≡◌, ℕ, ◌+◌, ◌-◌, ◌*◌, ◌^◌, ◌<◌, ◌≤◌, true, false, eqb, List, [], ◌∷◌, get_or, sym, refl, ap, ◌∙◌, mul_comm, arith}
use Rattle.std.proofs.lemmas.Bool.{eqb-true, agree_below_at}
use Rattle.std.proofs.lemmas.Nat.Bits.{bit_at_cat_low, bit_at_cat_high, bit_at_ones}
use Rattle.values.specs.Digits.{digit, digit_zero, digit_pack, same_digits, pack, pack_lt}
use Rattle.values.specs.Columns.{block_column}

unfoldable pub low_columns : List ℕ
low_columns =
    0xaaaa_aaaa_aaaa_aaaa ∷ 0xcccc_cccc_cccc_cccc ∷ 0xf0f0_f0f0_f0f0_f0f0 ∷ 0xff00_ff00_ff00_ff00 ∷ 0xffff_0000_ffff_0000 ∷ 0xffff_ffff_0000_0000 ∷ []

-- the rule of the table, in one computed test
pub low_rule : (j : ℕ) → j < 6 → get_or low_columns j 0 ≡ pack (λ i. digit i j) 64
unfolding low_columns pack
low_rule j h = eqb-true _ _ (agree_below_at (λ k. eqb (get_or low_columns k 0) (pack (λ i. digit i k) 64)) (λ k. true) 6 j refl h)

-- below the sixth, an input has the same column in each block
low_digit : (b i j : ℕ) → j < 6 → digit (64 * b + i) j ≡ digit i j
low_digit b i j h = ap (λ (n : ℕ). digit (n + i) j) (mul_comm 64 b) ∙ ap (λ (d : ℕ). eqb d 1) (bit_at_cat_low b 6 i j h)

-- from the sixth on, an input has one value over a block
high_digit : (b i j : ℕ) → 6 ≤ j → i < 64 → digit (64 * b + i) j ≡ digit b (j - 6)
high_digit b i j h l = ap (λ (n : ℕ). digit (n + i) j) (mul_comm 64 b) ∙ ap (λ (d : ℕ). eqb d 1) (bit_at_cat_high b 6 i j l h)

ones_digit : (i : ℕ) → i < 64 → digit (2 ^ 64 - 1) i ≡ true
ones_digit i h = ap (λ (d : ℕ). eqb d 1) (bit_at_ones 64 i h)

pub low_column : (b j n : ℕ) → j < 6 → n ≡ get_or low_columns j 0 → n ≡ (block_column b j).bits
low_column b j n h e =
    let p = pack (λ i. digit i j) 64 in
    e ∙ low_rule j h
    ∙ same_digits 64 p (block_column b j).bits (pack_lt _ 64) (block_column b j).fits
    (λ i l. digit_pack (λ i. digit i j) 64 i l ∙ sym (low_digit b i j h) ∙ sym (digit_pack (λ i. digit (64 * b + i) j) 64 i l))

pub high_column : (b j n : ℕ) → 6 ≤ j → n < 2 ^ 64 → ((i : ℕ) → i < 64 → digit n i ≡ digit b (j - 6)) → n ≡ (block_column b j).bits
high_column b j n h f e =
    same_digits 64 n (block_column b j).bits f (block_column b j).fits
    (λ i l. e i l ∙ sym (high_digit b i j h l) ∙ sym (digit_pack (λ i. digit (64 * b + i) j) 64 i l))

pub ones_column : (b j : ℕ) → 6 ≤ j → digit b (j - 6) ≡ true → 2 ^ 64 - 1 ≡ (block_column b j).bits
ones_column b j h e = high_column b j (2 ^ 64 - 1) h (omega arith) (λ i l. ones_digit i l ∙ sym e)

pub zeros_column : (b j : ℕ) → 6 ≤ j → digit b (j - 6) ≡ false → 0 ≡ (block_column b j).bits
zeros_column b j h e = high_column b j 0 h (omega arith) (λ i l. digit_zero i ∙ sym e)
