use Rattle.std.proofs.Common.{[], ◌∷◌, ◌++◌, sym, ◌∙◌, ap₂, arith}
use Rattle.std.proofs.lemmas.List.{take_more_set, length-set}
use Rattle.std.proofs.lemmas.List.FromFn.{map-range_with_len_more}
use Rattle.simulation.specs.Columns.{shown, frame_column}
use Rattle.simulation.proofs.columns.fill_columns.Goals as goal

pub loop-input-preserved : goal.loop-input-preserved
loop-input-preserved c =
    let i = c.loop-input.input in
    let now = c.loop-input.invariant in
    let f = frame_column (shown c.args.frames.now) in (
      take_more_set c.loop-input.columns i c.column.result (omega arith)
          ∙ ap₂ (λ xs x. xs ++ (x ∷ [])) now.0 c.column.ensures
          ∙ sym (map-range_with_len_more f 0 i i (omega arith)),
      length-set c.loop-input.columns i c.column.result ∙ now.1,
    )
