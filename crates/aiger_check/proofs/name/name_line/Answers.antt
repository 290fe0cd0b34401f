use Rattle.std.proofs.Common.{◌≡◌, None, Some, subst, arith}
use Rattle.std.proofs.lemmas.Result.{err_from_is_err_and}
use Rattle.std.proofs.lemmas.Bool.Decides.{when_false}
use Rattle.aiger_lines.specs.declared.number.DigitFault.TheVariants.{Other}
use Rattle.aiger_check.specs.Names.{no_letter, no_index, no_name}
use Rattle.aiger_check.specs.Calls.{Lettered}
use Rattle.aiger_check.proofs.name.name_line.Goals as goal
use Rattle.aiger_check.proofs.name.name_line.Goals.{else-index-count-via-then-index-count+else-is_named, else-index-count-via-else-index-count}

pub returns-in_err-count : goal.returns-in_err-count
returns-in_err-count c =
    let p = err_from_is_err_and c.from_residual.result c.from_residual.ensures.1 in
    let none : c.letter.result ≡ None = grind arith in
    let other : c.in_err-count.field-0.0 ≡ Other = grind arith in
    rw (p.1, p.2, other) (no_letter (subst (Lettered c.args.header c.args.line.now) none c.letter.ensures))

pub returns-in_err-index : goal.returns-in_err-index
returns-in_err-index c =
    let p = err_from_is_err_and c.from_residual-in_err-index.result c.from_residual-in_err-index.ensures.1 in
    let some : c.letter.result ≡ Some (c.in_ok-count.count, c.in_ok-count.rest) = grind arith in
    let l = subst (Lettered c.args.header c.args.line.now) some c.letter.ensures in
    rw (p.1, p.2) (no_index l.0 _ _ _ l.1 l.2 c.in_err-index.ensures)

pub returns : goal.returns
returns c =
    let some : c.letter.result ≡ Some (c.in_ok-count.count, c.in_ok-count.rest) = grind arith in
    let l = subst (Lettered c.args.header c.args.line.now) some c.letter.ensures in
    no_name l.0 _ _ _ _ l.1 l.2 c.in_ok-index.ensures
    (λ less name. elim c.else-index-count.branch [ else-index-count-via-then-index-count+else-is_named w ↦ when_false _ _ w.if-is_named.false w.is_named.ensures name | else-index-count-via-else-index-count w ↦ omega (arith, w.if-index-count.false) ])
