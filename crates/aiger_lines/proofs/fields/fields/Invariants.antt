use Rattle.std.proofs.Common.{◌≡◌, length}
use Rattle.aiger_lines.proofs.Turn.{Sofar}
use Rattle.aiger_lines.proofs.fields.fields.Given as goal

abbrev pub invariant-loop-i : goal.invariant-loop-i
invariant-loop-i g l = Sofar l.line l.fn.ends l.values l.i l.rest × (length l.values ≡ g.row.N) × (length l.fn.ends ≡ g.row.N)
