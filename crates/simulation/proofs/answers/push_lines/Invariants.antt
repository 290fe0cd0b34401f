use Rattle.std.proofs.Common.{◌≡◌, ◌++◌, drop}
use Rattle.simulation.specs.Columns.{shown}
use Rattle.simulation.specs.Answers.{row_lines}
use Rattle.simulation.proofs.answers.push_lines.Given as goal

-- the frames that are left decide the whole
abbrev pub invariant-loop-i : goal.invariant-loop-i
invariant-loop-i l = l.text.items ++ row_lines l.outputs l.i (drop l.i (shown l.frames)) ≡ l.initial.text.items ++ row_lines l.outputs 0 (shown l.frames)
