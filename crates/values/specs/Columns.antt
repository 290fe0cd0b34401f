-- The inputs, counted from 0, under many assignments at once: assignment k gives input j digit j of k.
-- Each row is a digit of the assignment's number; `Compares` and `edge_bit` say what the columns come to in a graph's answers.
use Rattle.std.specs.Prelude.{ℕ, ◌+◌, ◌*◌, Bool}
use Rattle.values.specs.Blocks.{block_of}
use Rattle.values.specs.Digits.{digit}
use Rattle.values.specs.Rows.{table_rows}
use Rattle.values.specs.declared.block.Block.{Block}
use Rattle.values.specs.declared.cofactors.Cofactors.{Cofactors}

-- input j under the 64 assignments from 64 * b on
abbrev pub block_column : ℕ → ℕ → Block
block_column b j = block_of (λ i. digit (64 * b + i) j)

-- the table whose row k is f k
abbrev pub table_of : (ℕ → Bool) → Cofactors (Cofactors Block)
table_of f = table_rows.make f

-- input j under the 256 assignments
abbrev pub table_column : ℕ → Cofactors (Cofactors Block)
table_column j = table_of (λ k. digit k j)
