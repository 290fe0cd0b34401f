use Rattle.std.proofs.Common.{codes, subst}
use Rattle.std.proofs.lemmas.Result.{err_from_is_err_and}
use Rattle.aiger_lines.specs.Forms.{Has, form}
use Rattle.aiger_lines.proofs.Turn.{has_length, five}
use Rattle.aiger_lines.proofs.fields.header_numbers.Goals as goal

pub returns-in_err-max : goal.returns-in_err-max
returns-in_err-max c =
    let p = err_from_is_err_and c.from_residual.result c.from_residual.ensures.1 in
    rw (p.1, p.2) c.in_err-max.ensures

pub returns : goal.returns
returns c =
    let h = c.in_ok-max.ensures in
    subst (Has (form (codes "    \n")) c.args.rest.now) (five _ (has_length (codes "    \n") c.args.rest.now _ h)) h
