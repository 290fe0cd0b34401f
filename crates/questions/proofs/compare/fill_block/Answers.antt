use Rattle.values.specs.Columns.{block_column}
use Rattle.graph.specs.States.{state}
use Rattle.questions.proofs.Tabled.{first_columns}
use Rattle.questions.proofs.Comparisons.{block_filled}
use Rattle.questions.proofs.compare.fill_block.Goals as goal

pub returns : goal.returns
returns g c =
    let given = first_columns (block_column c.args.block) 16 _ _ _ c.input_blocks.ensures c.inputs-inputs.ensures.answer c.requires.limit in
    block_filled (state c.args.graph.now) c.args.block _ c.args.blocks.now c.evaluate.new.values given c.requires.blocks c.evaluate.ensures.values
