use Rattle.std.proofs.Common.{◌≡◌, ◌+◌, [], length, get_or, Ok, Err, sym, refl, ap, ◌∙◌, subst, arith, rules}
use Rattle.std.proofs.iter.Serving.{serving}
use Rattle.std.proofs.lemmas.Result.{err_from_is_err_and}
use Rattle.aiger_check.specs.declared.faults.LineFault.{LineFault}
use Rattle.aiger_lines.specs.declared.number.DigitFault.TheVariants.{Other}
use Rattle.aiger_check.specs.declared.faults.LineFault.TheVariants.{Form}
use Rattle.aiger_check.specs.Text.{lines}
use Rattle.aiger_check.specs.Reading.{all}
use Rattle.aiger_check.specs.Kinds.{bytes}
use Rattle.aiger_check.specs.Calls.{LinesRead}
use Rattle.aiger_check.proofs.Passes.{Reached, start, turn, comments, bad, ended, at_line, stepped, too_few}
use Rattle.aiger_check.proofs.checker.Checker.check_lines.Goals as goal

pub loop-number-init : goal.loop-number-init
loop-number-init c = (start c.args.self.now.header _ _ _ _ _ c.requires.one c.requires.first, refl, (refl, refl, refl))

pub returns-in_err-map_err-clause-answer : goal.returns-in_err-map_err-clause-answer
returns-in_err-map_err-clause-answer c =
    let p = err_from_is_err_and c.from_residual.result c.from_residual.ensures.1 in
    let inv = c.loop-number.invariant in
    let r = inv.0 in
    let self = c.args.self.now in
    let read = c.in-Some.ensures in
    let same = ap (λ b. lines b.now) inv.1 in
    let told : (f : LineFault) × (c.step.result ≡ Err f) × (c.in_err-map_err.field-0.0 ≡ record { line = c.in-Some.number; fault = f }) = at_line c.in-Some.number _ (λ e f h. grind serving) c.step.result c.map_err.result c.in_err-map_err.field-0.0 c.in_err-map_err.was c.map_err.ensures.cases in
    let line = subst (λ z. bytes c.in-Some.field-0.line ≡ get_or z c.loop-number.reader.number []) same read.2.0 in
    let place : c.in-Some.number ≡ c.loop-number.reader.number + 1 = search rules in
    rw (p.1, p.2, told.2) (
    subst (λ z. LinesRead self.header (all c.args.reader.now) self.map.now self.outputs.now (Err (record { line = z; fault = told.0 })) c.step.new.self.map.now c.step.new.self.outputs.now) (sym place)
    (bad self.header _ _ _ self.small c.requires.start self.places _ _ _ _ r _ line (omega (arith, read.0, ap length same)) told.0 c.step.new.self.section _ _ (stepped self.header _ inv.2.0 r.below c.loop-number.self.section (bytes c.in-Some.field-0.line) c.loop-number.self.map.now c.loop-number.self.outputs.now c.step.result (Err told.0) c.step.new.self.section c.step.new.self.map.now c.step.new.self.outputs.now (c.step.ensures.answer r.below) r.due told.1)))

pub returns-in-Comments-clause-answer : goal.returns-in-Comments-clause-answer
returns-in-Comments-clause-answer c =
    let inv = c.loop-number.invariant in
    let r = inv.0 in
    let self = c.args.self.now in
    let same = ap (λ b. lines b.now) inv.1 in
    let step = stepped self.header _ inv.2.0 r.below c.loop-number.self.section (bytes c.in-Some.field-0.line) c.loop-number.self.map.now c.loop-number.self.outputs.now c.step.result (Ok tt) c.step.new.self.section c.step.new.self.map.now c.step.new.self.outputs.now (c.step.ensures.answer r.below) r.due (grind arith) in
    let line = subst (λ z. bytes c.in-Some.field-0.line ≡ get_or z c.loop-number.reader.number []) same c.in-Some.ensures.2.0 in
    comments self.header _ _ _ self.small c.requires.start self.places _ _ _ _ r _ line _ _ _ step c.in-Comments.is

pub loop-number-preserved : goal.loop-number-preserved
loop-number-preserved c =
    let inv = c.loop-number.invariant in
    let r = inv.0 in
    let self = c.args.self.now in
    let read = c.in-Some.ensures in
    let same = ap (λ b. lines b.now) inv.1 in
    let step = stepped self.header _ inv.2.0 r.below c.loop-number.self.section (bytes c.in-Some.field-0.line) c.loop-number.self.map.now c.loop-number.self.outputs.now c.step.result (Ok tt) c.step.new.self.section c.step.new.self.map.now c.step.new.self.outputs.now (c.step.ensures.answer r.below) r.due (grind arith) in
    let line = subst (λ z. bytes c.in-Some.field-0.line ≡ get_or z c.loop-number.reader.number []) same read.2.0 in (
      subst (λ n. Reached self.header (all c.args.reader.now) self.map.now self.outputs.now n c.step.new.self.section c.step.new.self.map.now c.step.new.self.outputs.now) (sym read.4)
          (turn self.header _ _ _ self.small c.requires.start self.places _ _ _ _ r _ line _ _ _ step c.in_default-section.not-Comments),
      read.3 ∙ inv.1,
      (c.step.ensures.same.0 ∙ inv.2.0, c.step.ensures.same.1 ∙ inv.2.1, c.step.ensures.same.2 ∙ inv.2.2),
    )

pub returns-in-Names-clause-answer : goal.returns-in-Names-clause-answer
returns-in-Names-clause-answer c =
    let inv = c.loop-number.invariant in
    let self = c.args.self.now in
    ended self.header _ _ _ self.small c.requires.start self.places _ _ _ _ inv.0 (omega (arith, c.in_default.ensures.0, ap (λ b. length (lines b.now)) inv.1)) c.in-Names.is

pub returns-in_default-section-2 : goal.returns-in_default-section-2
returns-in_default-section-2 c =
    let inv = c.loop-number.invariant in
    let self = c.args.self.now in
    let e = c.line_number-line.ensures.answer ∙ ap (λ q. q.number) c.in_default.ensures.1 in
    record {
      same = inv.2;
      answer =
          subst (λ z. LinesRead self.header (all c.args.reader.now) self.map.now self.outputs.now (Err (record { line = z + 1; fault = Form Other })) c.loop-number.self.map.now c.loop-number.self.outputs.now) (sym e)
          (too_few self.header _ _ _ self.small c.requires.start self.places _ _ _ _ inv.0 (omega (arith, c.in_default.ensures.0, ap (λ b. length (lines b.now)) inv.1)) c.in_default-section-2.not-Names);
    }
