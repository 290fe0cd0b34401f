use Rattle.std.proofs.Common.{[], ◌∷◌, ◌++◌, vec_items, sym, ◌∙◌, subst}
use Rattle.std.proofs.lemmas.List.{map-id}
use Rattle.std.proofs.lemmas.Iterator.Adapters.{YieldsList-from_vec}
use Rattle.std.proofs.lemmas.Iterator.Consumers.{YieldsList-end}
use Rattle.replay.specs.Steps.{StepsFor}
use Rattle.replay.proofs.Steps.{steps_push}
use Rattle.replay.proofs.script.script.Goals as goal

pub loop-number-init : goal.loop-number-init
loop-number-init c = record { opening = c.new-script.ensures.answer.0; steps = subst (λ z. StepsFor [] z) (sym c.new-script.ensures.answer.1) tt }

pub loop-number-preserved : goal.loop-number-preserved
loop-number-preserved c =
    let i = c.loop-number.invariant in
    record {
      opening = c.in_ok-push.ensures.kept ∙ i.opening;
      steps = subst (StepsFor (c.loop-number.yielded ++ ((c.in-Some.number, c.in-Some.line) ∷ []))) (sym c.in_ok-push.ensures.list) (steps_push c.loop-number.yielded (vec_items c.loop-number.script.steps) (c.in-Some.number, c.in-Some.line) _ i.steps c.in_ok-step.ensures);
    }

pub returns : goal.returns
returns c =
    let i = c.loop-number.invariant in
    let items = vec_items c.args.section.lines in
    let end = YieldsList-end (YieldsList-from_vec items (search) (search)) c.loop-number.yielded c.loop-number.number-iterator c.loop-number.yielded_by c.next.result c.next.new.self c.in-None.is c.next.ensures.steps in
    (i.opening, subst (λ z. StepsFor z (vec_items c.loop-number.script.steps)) (sym (map-id c.loop-number.yielded) ∙ end.0) i.steps)
