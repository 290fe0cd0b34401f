use Rattle.std.proofs.Common.{◌≡◌, refl, rules}
use Rattle.values.specs.Columns.{block_column}
use Rattle.questions.proofs.FromFn.{made_by}
use Rattle.questions.proofs.compare.input_blocks.Goals as goal

pub returns : goal.returns
returns c = made_by _ (λ f. f.0 ≡ c.args.block) (block_column c.args.block) (block_column 0 0) (λ p q j y s h. search rules) _ c.from_fn.result 16 refl c.from_fn.ensures.items
