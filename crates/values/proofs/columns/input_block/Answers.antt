use Rattle.std.proofs.Common.{◌≡◌, ◌-◌, true, false, sym, ◌∙◌, rules}
use Rattle.std.proofs.lemmas.Bool.{ltb-true}
use Rattle.std.proofs.lemmas.List.{get_or_default}
use Rattle.values.specs.Blocks.{same_bits}
use Rattle.values.specs.Digits.{digit}
use Rattle.values.proofs.InputColumns.{low_columns, low_column, ones_column, zeros_column}
use Rattle.values.proofs.columns.input_block.Goals as goal

pub returns-in-Some : goal.returns-in-Some
unfolding low_columns
returns-in-Some c =
    let entry = c.in-Some.ensures.lookup in
    let low = ltb-true _ _ (sym entry.0) in
    same_bits (low_column c.args.block c.args.input _ low (c.new.ensures ∙ entry.1 ∙ get_or_default low_columns c.args.input _ 0 low))

pub returns-then-bit : goal.returns-then-bit
returns-then-bit c =
    let d : digit c.args.block (c.args.input - 6) ≡ true = search rules in
    same_bits (c.new-then-bit.ensures ∙ ones_column c.args.block c.args.input c.in_default.ensures.lookup.3 d)

pub returns-else-bit : goal.returns-else-bit
returns-else-bit c =
    let d : digit c.args.block (c.args.input - 6) ≡ false = search rules in
    same_bits (c.new-else-bit.ensures ∙ zeros_column c.args.block c.args.input c.in_default.ensures.lookup.3 d)
