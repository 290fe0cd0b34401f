use Rattle.std.proofs.Common.{◌≡◌, set, ap, ◌∙◌, subst, arith}
use Rattle.std.proofs.lemmas.Result.{err_from_is_err_and}
use Rattle.rules.specs.Edges.{false_edge}
use Rattle.aiger_check.specs.Reading.{all}
use Rattle.aiger_check.specs.Checks.{notes}
use Rattle.aiger_check.specs.Calls.{opened, OutputsChecked}
use Rattle.aiger_check.proofs.Ending.{kept_m, kept_o, ended, inside}
use Rattle.aiger_check.proofs.checker.Checker.check_sections.Goals as goal

pub returns-in_err-check_lines-clause-answer : goal.returns-in_err-check_lines-clause-answer
returns-in_err-check_lines-clause-answer c =
    let p = err_from_is_err_and c.from_residual.result c.from_residual.ensures.1 in
    let self = c.args.self.now in
    let e : set c.mark.new.places 0 false_edge ≡ opened self.header.max self.map.now = ap (λ z. set z 0 false_edge) (c.mark.ensures.within (omega (arith, self.places))) in
    let b = c.in_err-check_lines.ensures.answer in
    let em = b.3 ∙ ap (notes 0 b.0) e in
    rw (p.1, p.2) (
      b.2,
      kept_m self.header (all c.args.reader.now) self.map.now self.outputs.now self.small self.places self.outs b.0 b.1 _ _ em b.4,
      kept_o self.header (all c.args.reader.now) self.map.now self.outputs.now self.small self.places self.outs b.0 b.1 _ _ em b.4,
    )

pub check_outputs-requires : goal.check_outputs-requires
check_outputs-requires c j l =
    let self = c.args.self.now in
    let e : set c.mark.new.places 0 false_edge ≡ opened self.header.max self.map.now = ap (λ z. set z 0 false_edge) (c.mark.ensures.within (omega (arith, self.places))) in
    let b = c.in_ok-check_lines.ensures.answer in
    let same = c.in_ok-check_lines.ensures.same.0 in
    let em = b.2 ∙ ap (notes 0 b.0) e in
    omega (arith, ap (λ h. h.max) same, inside self.header (all c.args.reader.now) self.map.now self.outputs.now self.small self.places self.outs b.0 b.1.begins c.check_lines.new.self.map.now c.check_lines.new.self.outputs.now em b.3 b.1.count j (omega (arith, ap (λ h. h.outputs) same)))

pub returns-clause-answer : goal.returns-clause-answer
returns-clause-answer c =
    let self = c.args.self.now in
    let e : set c.mark.new.places 0 false_edge ≡ opened self.header.max self.map.now = ap (λ z. set z 0 false_edge) (c.mark.ensures.within (omega (arith, self.places))) in
    let b = c.in_ok-check_lines.ensures.answer in
    let same = c.in_ok-check_lines.ensures.same.0 in
    let em = b.2 ∙ ap (notes 0 b.0) e in
    ended self.header (all c.args.reader.now) self.map.now self.outputs.now self.small self.places self.outs b.0 b.1.begins _ _ em b.3 b.1.count b.1.tail c.check_outputs.result
    (subst (λ h. OutputsChecked h c.check_lines.new.self.map.now c.check_lines.new.self.outputs.now c.check_outputs.result) same c.check_outputs.ensures)
