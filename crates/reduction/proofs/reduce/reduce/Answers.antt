use Rattle.std.proofs.Common.{rules, true, false, refl}
use Rattle.reduction.proofs.Reducing.{reread_as, told_of, memory}
use Rattle.reduction.proofs.Saying.{says_same}
use Rattle.reduction.proofs.reduce.reduce.Goals as goal

pub returns-in_err-same-clause-answer : goal.returns-in_err-same-clause-answer
returns-in_err-same-clause-answer g c = memory _ _ _ _ _ _ _ _ c.in_err-same.field-0.0 (search rules)

pub returns-then-same-clause-answer : goal.returns-then-same-clause-answer
returns-then-same-clause-answer g c =
    let m = g.S.NodeStore.model in
    reread_as _ (g.R.RuleSet.lawful c.args.rules) _ c.args.limits _ _ (m.capped c.args.store) (m.roomy c.args.store) _ _ _ _ c.in_ok-graph.text true (m.within c.in_ok-graph.graph.store) c.in_ok-graph.ensures.wrote
    (told_of _ _ _ _ _ _ c.args.limits _ _ _ true c.as_slice.ensures.value c.as_slice-2.ensures.value c.if-same.true c.in_ok-same.ensures)

pub returns-then-same-clause-cases : goal.returns-then-same-clause-cases
returns-then-same-clause-cases g c =
    let m = g.S.NodeStore.model in
    let w = c.in_ok-graph.ensures.wrote in
    let tells = told_of _ _ _ _ _ _ c.args.limits _ _ _ true c.as_slice.ensures.value c.as_slice-2.ensures.value c.if-same.true c.in_ok-same.ensures in
    says_same g.V.Value.algebra _ (g.R.RuleSet.lawful c.args.rules) _ c.args.limits _ _ _ _ (m.capped c.args.store) (m.roomy c.args.store) (m.roomy c.args.spare) _ (m.within c.in_ok-graph.graph.store) _ _ w ((tells.0 w.text_is).0 refl)

pub returns-clause-answer : goal.returns-clause-answer
returns-clause-answer g c =
    let m = g.S.NodeStore.model in
    reread_as _ (g.R.RuleSet.lawful c.args.rules) _ c.args.limits _ _ (m.capped c.args.store) (m.roomy c.args.store) _ _ _ _ c.in_ok-graph.text false (m.within c.in_ok-graph.graph.store) c.in_ok-graph.ensures.wrote
    (told_of _ _ _ _ _ _ c.args.limits _ _ _ false c.as_slice.ensures.value c.as_slice-2.ensures.value c.if-same.false c.in_ok-same.ensures)
