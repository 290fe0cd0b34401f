use Rattle.std.proofs.Common.{rules}
use Rattle.values.specs.Columns.{table_column}
use Rattle.questions.proofs.FromFn.{made_by}
use Rattle.questions.proofs.tabulate.input_tables.Goals as goal

pub returns : goal.returns
returns c = made_by _ (λ _. Unit {0}) table_column (table_column 0) (λ p q j y s h. search rules) _ c.from_fn.result 8 tt c.from_fn.ensures.items
