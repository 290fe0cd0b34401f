use Rattle.std.proofs.Common.{arith, rules}
use Rattle.std.proofs.lemmas.Result.{err_from_is_err_and}
use Rattle.std.proofs.lemmas.List.{nil_from_length}
use Rattle.aiger_lines.proofs.Turn.{bad_number, whole}
use Rattle.aiger_lines.proofs.fields.fields.Goals as goal

pub returns-in_err-v : goal.returns-in_err-v
returns-in_err-v g c =
    let p = err_from_is_err_and c.from_residual.result c.from_residual.ensures.1 in
    let inv = c.loop-i.invariant in
    rw (p.1, p.2) (bad_number _ _ _ _ _ inv.0 (omega (arith, inv.2)) _ c.in_err-v.ensures)

pub returns-in-empty : goal.returns-in-empty
returns-in-empty g c =
    let inv = c.loop-i.invariant in
    whole _ _ _ _ _ inv.0 (omega (arith, inv.2)) (omega (arith, inv.1)) (nil_from_length c.loop-i.rest.now (search rules))
