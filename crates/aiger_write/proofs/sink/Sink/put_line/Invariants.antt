use Rattle.std.proofs.Common.{drop}
use Rattle.aiger_write.specs.Texts.{line_text}
use Rattle.aiger_write.proofs.Puts.{Due}
use Rattle.aiger_write.proofs.sink.Sink.put_line.Given as goal

abbrev pub invariant-loop-i : goal.invariant-loop-i
invariant-loop-i l = Due (line_text l.numbers) (line_text (drop l.i l.numbers)) l.initial.self l.self
