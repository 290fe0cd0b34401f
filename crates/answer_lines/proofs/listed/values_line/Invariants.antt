use Rattle.std.proofs.Common.{◌≡◌, ◌++◌, map, take, codes, vec_items}
use Rattle.request_lines.specs.Lines.{bit_digit}
use Rattle.answer_lines.proofs.listed.values_line.Given as goal

abbrev pub invariant-loop-bit : goal.invariant-loop-bit
invariant-loop-bit l = vec_items l.line ≡ codes "values " ++ map bit_digit (take l.bit-index l.bit-items)
