use Rattle.std.proofs.Common.{◌≡◌, ℕ, ◌+◌, ap, ◌∙◌, ap₂, add_assoc, zero-add}
use mathlib.Core.Path.{fun_ext}
use Rattle.values.specs.Blocks.{block_of}
use Rattle.values.specs.Columns.{block_column}
use Rattle.values.specs.Digits.{digit}
use Rattle.values.specs.Products.{beside}
use Rattle.values.proofs.columns.input_table.Goals as goal

first : (j : ℕ) → block_column 0 j ≡ block_of (λ i. digit i j)
first j = ap block_of (fun_ext (λ i. ap (λ m. digit m j) (zero-add i)))

last : (j : ℕ) → block_column 3 j ≡ block_of (λ i. digit (128 + (64 + i)) j)
last j = ap block_of (fun_ext (λ i. ap (λ m. digit m j) (add_assoc 128 64 i)))

pub returns : goal.returns
returns c =
    let j = c.args.input in
    ap₂ beside (ap₂ beside (c.input_block.ensures ∙ first j) c.input_block-2.ensures) (ap₂ beside c.input_block-3.ensures (c.input_block-4.ensures ∙ last j))
