use Rattle.std.proofs.Common.{◌≡◌, length, take}
use Rattle.simulation.specs.Columns.{shown, frame_columns}
use Rattle.simulation.proofs.columns.fill_columns.Given as goal

abbrev pub invariant-loop-input : goal.invariant-loop-input
invariant-loop-input l = (take l.input l.columns ≡ frame_columns (shown l.frames) l.input) × (length l.columns ≡ length l.fn.columns)
