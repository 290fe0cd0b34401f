use Rattle.std.proofs.Common.{codes, subst}
use Rattle.std.proofs.lemmas.Result.{err_from_is_err_and}
use Rattle.aiger_lines.specs.Forms.{Has, form}
use Rattle.aiger_lines.proofs.Turn.{has_length, three}
use Rattle.aiger_lines.proofs.fields.and_line.Goals as goal

pub returns-in_err-lhs : goal.returns-in_err-lhs
returns-in_err-lhs c =
    let p = err_from_is_err_and c.from_residual.result c.from_residual.ensures.1 in
    rw (p.1, p.2) c.in_err-lhs.ensures

pub returns : goal.returns
returns c =
    let h = c.in_ok-lhs.ensures in
    subst (Has (form (codes "  \n")) c.args.line.now) (three _ (has_length (codes "  \n") c.args.line.now _ h)) h
