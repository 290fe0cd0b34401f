use Rattle.std.proofs.Common.{get_or, arith, rules, below_more}
use Rattle.std.proofs.lemmas.Int.Digits.{digits_value_more}
use Rattle.aiger_lines.specs.Numbers.{Digit}
use Rattle.aiger_lines.proofs.Digit.{front_lt, digit_value}
use Rattle.aiger_lines.proofs.number.digits.Goals as goal
use Rattle.aiger_lines.proofs.number.digits.Goals.{then-i-lt7, else-i-lt7}

pub overflow_mul-v : goal.overflow_mul-v
overflow_mul-v c =
    let inv = c.loop-i.invariant in
    omega (arith, inv.1 (omega arith), front_lt c.args.s.now c.loop-i.i (omega arith) inv.0 (omega arith))

pub overflow_add-v : goal.overflow_add-v
overflow_add-v c =
    let inv = c.loop-i.invariant in
    let d : Digit (get_or c.args.s.now c.loop-i.i 0) = search rules in
    omega (arith, inv.1 (omega arith), front_lt c.args.s.now c.loop-i.i (omega arith) inv.0 (omega arith), c.from.ensures, d.1)

pub loop-i-preserved : goal.loop-i-preserved
loop-i-preserved c =
    let inv = c.loop-i.invariant in
    let d : Digit (get_or c.args.s.now c.loop-i.i 0) = search rules in (
      below_more (λ k. Digit (get_or c.args.s.now k 0)) c.loop-i.i inv.0 d,
      λ few. elim c.if-i-lt7.branch [ then-i-lt7 w ↦ omega (arith, w.v-is, w.from.ensures, inv.1 (omega arith), digits_value_more 10 c.args.s.now c.loop-i.i (omega arith), digit_value _ d) | else-i-lt7 w ↦ absurd (omega (arith, w.if-i-lt7.false)) ],
    )
