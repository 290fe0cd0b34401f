-- The stream of pseudo-random numbers.
-- The formulas are those of the published generator.
use Rattle.std.specs.Prelude.{ℕ, ◌*◌, ◌/◌, ◌%◌, ◌^◌, ◌==◌, bit_xor, if◌then◌else◌}

-- the state that a stream begins in
unfoldable pub seed : ℕ
seed = 2685821657736338717

-- Marsaglia's xorshift, a word's step in three
abbrev pub left : ℕ → ℕ → ℕ
left k x = bit_xor x (x * 2 ^ k % 2 ^ 64)

abbrev pub right : ℕ → ℕ → ℕ
right k x = bit_xor x (x / 2 ^ k)

abbrev pub step : ℕ → ℕ
step x = left 17 (right 7 (left 13 x))

-- the number below n that a state gives, by the upper half of the next one
unfoldable pub below : ℕ → ℕ → ℕ
below x n = if n == 0 then 0 else step x / 2 ^ 32 % n

-- the state after it
unfoldable pub after : ℕ → ℕ → ℕ
after x n = if n == 0 then x else step x
