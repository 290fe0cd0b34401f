use Rattle.std.proofs.Common.{◌+◌, ℕ, List, ◌++◌, map, vec_items, sym, ap, ◌∙◌, subst}
use Rattle.history_model.specs.declared.request.Answer.{Answer}
use Rattle.history_model.specs.Histories.{told}
use Rattle.request_scripts.specs.Scripts.{script_text}
use Rattle.request_scripts.proofs.Scripts.{Kept, kept_misread, kept_unanswered, kept_answered}
use Rattle.request_scripts.proofs.script.script_lines.Goals as goal
use Rattle.request_scripts.proofs.script.script_lines.Goals.{in-Misread+in_ok-misread_line+in_ok-extend_from_slice, in_default+in_default-left, in_default+in-len1-up+in_ok-line+in_ok-extend_from_slice-2}

pub loop-step-preserved : goal.loop-step-preserved
loop-step-preserved g c =
    let i = c.loop-step.invariant in
    let steps = c.args.steps.now in
    let at = c.loop-step.step-index in
    let whole = script_text c.args.inputs c.args.limit 0 steps (map told c.args.answers.now) in
    let held : Kept c.args.inputs c.args.limit steps at (vec_items c.loop-step.text) c.loop-step.size (map told c.loop-step.left.now) whole = (i.few, i.whole) in
    let N : ℕ → Type 0 = λ z. Kept c.args.inputs c.args.limit steps (at + 1) (vec_items c.match-step.text) z (map told c.match-step.left.now) whole in
    let L : List (Answer g.row.W.Denot) → Type 0 = λ z. Kept c.args.inputs c.args.limit steps (at + 1) (vec_items c.match-step.text) c.loop-step.size (map told z) whole in
    let T : List ℕ → Type 0 = λ z. Kept c.args.inputs c.args.limit steps (at + 1) z c.loop-step.size (map told c.loop-step.left.now) whole in
    let k : Kept c.args.inputs c.args.limit steps (at + 1) (vec_items c.match-step.text) c.match-step.size (map told c.match-step.left.now) whole = elim c.match-step.branch [
      | in-Misread+in_ok-misread_line+in_ok-extend_from_slice w ↦
          subst N (sym w.size-is) (subst L (sym (ap (λ z. z.now) w.left-is)) (kept_misread c.args.inputs c.args.limit c.loop-step.size w.in-Misread.number at steps c.step-item.result (map told c.loop-step.left.now)
          (vec_items c.loop-step.text) (vec_items c.match-step.text) _ whole c.loop-step-test.true c.step-item.is w.in-Misread.is w.in_ok-misread_line.ensures.text
          (ap vec_items w.text-is ∙ w.in_ok-extend_from_slice.ensures.items ∙ ap (λ z. vec_items c.loop-step.text ++ z) w.as_slice.ensures.value) held))
      | in_default+in_default-left w ↦
          subst N (sym w.size-is) (subst L (sym (ap (λ z. z.now) w.left-is)) (subst T (sym (ap vec_items w.text-is)) (kept_unanswered told c.args.inputs c.args.limit c.loop-step.size at steps c.step-item.result c.loop-step.left.now
          (vec_items c.loop-step.text) whole c.loop-step-test.true c.step-item.is w.in_default.not-Misread w.in_default-left.len_below held)))
      | in_default+in-len1-up+in_ok-line+in_ok-extend_from_slice-2 w ↦
          kept_answered told c.args.inputs c.args.limit c.loop-step.size c.match-step.size at steps c.step-item.result c.loop-step.left.now c.match-step.left.now w.answer-item.result
          (vec_items c.loop-step.text) (vec_items c.match-step.text) _ whole c.loop-step-test.true c.step-item.is w.in_default.not-Misread w.in-len1-up.len_at_least w.answer-item.is (ap (λ z. z.now) w.left-is) w.in_ok-line.ensures.text
          (ap vec_items w.text-is ∙ w.in_ok-extend_from_slice-2.ensures.items ∙ ap (λ z. vec_items c.loop-step.text ++ z) w.as_slice-in-len1-up.ensures.value) (w.size-is ∙ w.size_after-size.ensures.answer) held
    ] in
    record { few = k.0; whole = k.1 }
