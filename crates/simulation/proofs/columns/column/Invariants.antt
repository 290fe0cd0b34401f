use Rattle.std.proofs.Common.{◌≡◌, get_or, []}
use Rattle.values.specs.Digits.{pack}
use Rattle.simulation.specs.Columns.{set_at, shown}
use Rattle.simulation.proofs.columns.column.Given as goal

abbrev pub invariant-loop-i : goal.invariant-loop-i
invariant-loop-i l = l.bits ≡ pack (λ k. set_at (get_or (shown l.frames) k []) l.input) l.i
