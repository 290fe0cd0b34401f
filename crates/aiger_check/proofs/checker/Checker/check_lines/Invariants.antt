use Rattle.std.proofs.Common.{◌≡◌, ◌-◌, length}
use Rattle.aiger_check.specs.Reading.{all}
use Rattle.aiger_check.specs.Checkers.{SameFile}
use Rattle.aiger_check.proofs.Passes.{Reached}
use Rattle.aiger_check.proofs.checker.Checker.check_lines.Given as goal

abbrev pub invariant-loop-number : goal.invariant-loop-number
invariant-loop-number l =
    Reached l.initial.self.header (all l.initial.reader) l.initial.self.map.now l.initial.self.outputs.now l.reader.number l.self.section l.self.map.now l.self.outputs.now
    × (l.reader.bytes ≡ l.initial.reader.bytes)
    × SameFile l.initial.self l.self

abbrev pub decreases-loop-number : goal.decreases-loop-number
decreases-loop-number l = length (all l.reader) - l.reader.number
