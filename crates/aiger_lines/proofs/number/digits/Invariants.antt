use Rattle.std.proofs.Common.{◌≡◌, ℕ, ◌<◌, ◌≤◌, get_or, take}
use Rattle.std.specs.Str.Parse.{digits_value}
use Rattle.aiger_lines.specs.Numbers.{Digit}
use Rattle.aiger_lines.proofs.number.digits.Given as goal

abbrev pub invariant-loop-i : goal.invariant-loop-i
invariant-loop-i l = ((k : ℕ) → k < l.i → Digit (get_or l.s k 0)) × (l.i ≤ 7 → l.v ≡ digits_value 10 (take l.i l.s))
