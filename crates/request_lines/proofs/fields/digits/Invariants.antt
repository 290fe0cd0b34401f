use Rattle.std.proofs.Common.{◌≡◌, map, take, vec_items}
use Rattle.request_lines.specs.Lines.{bit_digit}
use Rattle.request_lines.proofs.fields.digits.Given as goal

abbrev pub invariant-loop-digit : goal.invariant-loop-digit
invariant-loop-digit l = take l.digit-index l.digits ≡ map bit_digit (vec_items l.bits)
