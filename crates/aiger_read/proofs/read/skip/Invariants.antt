use Rattle.std.proofs.Common.{◌≡◌}
use Rattle.aiger_read.proofs.read.skip.Given as goal

abbrev pub invariant-loop-i : goal.invariant-loop-i
invariant-loop-i l = (l.reader.bytes ≡ l.initial.reader.bytes) × (l.reader.number ≡ l._i)
