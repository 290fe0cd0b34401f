use Rattle.std.proofs.Common.{◌≡◌, ◌++◌, option_to_list, vec_items, sym, ap, ◌∙◌, append-nil, arith}
use Rattle.request_scripts.proofs.Scripts.{asks_more, asks_all}
use Rattle.request_scripts.proofs.script.requests.Goals as goal
use Rattle.request_scripts.proofs.script.requests.Goals.{in-Some+in_ok-push, in_default}

pub loop-step-preserved : goal.loop-step-preserved
loop-step-preserved g c =
    let i = c.loop-step.invariant in
    let items : vec_items c.match-request.requests ≡ vec_items c.loop-step.requests ++ option_to_list c.request.result = elim c.match-request.branch [
      | in-Some+in_ok-push w ↦ ap vec_items w.requests-is ∙ w.in_ok-push.ensures.items ∙ ap (λ z. vec_items c.loop-step.requests ++ option_to_list z) (sym w.in-Some.is)
      | in_default w ↦ ap vec_items w.requests-is ∙ sym (append-nil (vec_items c.loop-step.requests)) ∙ ap (λ z. vec_items c.loop-step.requests ++ option_to_list z) (sym w.in_default.is)
    ] in
    record {
      few = omega arith;
      decides = asks_more c.args.opening.now c.args.steps.now c.loop-step.step-index c.loop-step.most c.min-most.result c.places.result c.most.result c.step-item.result c.request.result _ _
          i.decides c.loop-step-test.true c.step-item.is c.places.ensures c.request.ensures c.most.ensures c.min-most.ensures items;
    }

pub returns : goal.returns
returns g c = asks_all c.args.opening.now c.args.steps.now c.loop-step.step-index c.loop-step.most _ c.loop-step.invariant.decides c.loop-step-test.false
