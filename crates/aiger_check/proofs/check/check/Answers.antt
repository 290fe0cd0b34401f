use Rattle.std.proofs.Common.{◌≡◌, None, [], get_or, sym, refl, subst, arith, rules}
use Rattle.std.proofs.lemmas.Result.{err_from_is_err_and}
use Rattle.aiger_check.specs.declared.faults.CircuitFault.TheVariants.{NoHeader}
use Rattle.aiger_check.specs.Text.{lines}
use Rattle.aiger_check.specs.Reading.{all}
use Rattle.aiger_check.specs.Files.{HeaderLine}
use Rattle.aiger_check.specs.Calls.{HeaderOf}
use Rattle.aiger_check.proofs.check.check.Goals as goal

pub returns-in_err-header : goal.returns-in_err-header
returns-in_err-header c =
    let p = err_from_is_err_and c.from_residual.result c.from_residual.ensures.1 in
    let none : c.read_header.result ≡ None = grind arith in
    let fault : c.in_err-header.field-0.0 ≡ NoHeader = grind arith in
    let no = subst (HeaderOf (get_or (all c.new-reader.result) 0 [])) none c.read_header.ensures.answer in
    rw (p.1, p.2, fault) ((search rules, λ h l. no h (subst (λ b. HeaderLine (get_or (lines b) 0 []) h) (sym c.new-reader.ensures.0) l)), refl, refl)
