-- The block as a Boolean algebra: 64 bits, each by itself.
-- A block is known by its 64 digits (`same_rows`), and its laws are the bit's, digit by digit (`row_keeps`).
use Rattle.std.specs.Prelude.{◌≡◌, ℕ, ◌-◌, ◌^◌, ◌<◌, Bool, bit_and}
use mathlib.Core.HLevel.{is_prop→PathP}
use Rattle.std.proofs.Math.Bridge.{le_prop}
use Rattle.std.proofs.Common.{arith}
use Rattle.std.specs.Int.Bits.{and_lt}
use Rattle.values.specs.Algebra.{BooleanAlgebra}
use Rattle.values.specs.Bit.{bit_algebra}
use Rattle.values.specs.Homs.{Keeps, algebra_by}
use Rattle.values.specs.Digits.{digit, digit_zero, digit_and, digit_not, same_digits, pack, pack_lt}
use Rattle.values.specs.declared.block.Block.{Block}

abbrev pub block_bottom : Block
block_bottom = record { bits = 0; fits = omega arith }

abbrev pub block_not : Block → Block
block_not a = record { bits = (2 ^ 64 - 1) - a.bits; fits = omega arith }

abbrev pub block_and : Block → Block → Block
block_and a b = record { bits = bit_and a.bits b.bits; fits = and_lt 64 a.bits b.bits a.fits b.fits }

-- blocks with the same bits are the same, whatever shows that these fit
pub same_bits : {a b : Block} → a.bits ≡ b.bits → a ≡ b
same_bits {a} {b} e = λ i. record { bits = e i; fits = is_prop→PathP (λ i. e i < 2 ^ 64) (λ i. le_prop) a.fits b.fits i }

-- bit i of a block
abbrev pub row : ℕ → Block → Bool
row i b = digit b.bits i

pub row_keeps : (i : ℕ) → i < 64 → Keeps block_bottom block_not block_and bit_algebra (row i)
row_keeps i h = record {
  at_bottom = digit_zero i;
  at_not = λ a. digit_not 64 a.bits i h a.fits;
  at_and = λ a b. digit_and a.bits b.bits i;
}

-- blocks with the same 64 bits are the same
pub same_rows : (a b : Block) → ((i : ℕ) → i < 64 → row i a ≡ row i b) → a ≡ b
same_rows a b e = same_bits (same_digits 64 a.bits b.bits a.fits b.fits e)

-- its laws are the bit's, by its 64 bits
abbrev pub block_algebra : BooleanAlgebra Block
block_algebra =
    algebra_by block_bottom block_not block_and bit_algebra (λ (i : (n : ℕ) × (n < 64)). row i.0) (λ i. row_keeps i.0 i.1)
    (λ a b e. same_rows a b (λ i h. e (i, h))) (0, omega arith)

-- the block whose bit i is f i
abbrev pub block_of : (ℕ → Bool) → Block
block_of f = record { bits = pack f 64; fits = pack_lt f 64 }
