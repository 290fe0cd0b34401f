use Rattle.std.proofs.Common.{map, vec_items, sym, ap, ◌∙◌, subst}
use Rattle.std.proofs.lemmas.List.{take_all, map_push}
use Rattle.graph.specs.declared.graph.Graph.{Graph}
use Rattle.graph.specs.States.{state}
use Rattle.history_model.specs.Histories.{told, new_world}
use Rattle.history_model.specs.Law.{Ran}
use Rattle.history.proofs.Running.{running_next, next_request, ran}
use Rattle.history.proofs.history.run.Goals as goal

pub loop-request-preserved : goal.loop-request-preserved
loop-request-preserved g c =
    let i = c.loop-request.invariant in
    let e = c.in_ok-answer.ensures in
    let item = c.request-item.result in (
      e.rules ∙ i.0,
      running_next g.W.Value.algebra g.R.RuleSet.replies c.new-session.result.graph.rules c.loop-request.session.graph.rules _ _ _ _ _ _ _ item _ i.0 i.1 e.cases
          (next_request c.args.requests.now c.loop-request.request-index item c.loop-request-test.true c.request-item.is)
          (ap (map told) c.in_ok-push.ensures.items ∙ map_push told (vec_items c.loop-request.answers) c.in_ok-answer.field-0),
    )

pub returns : goal.returns
returns g c =
    let m = g.S.NodeStore.model in
    let n = c.new-session.ensures in
    let i = c.loop-request.invariant in
    let v' = new_world c.args.inputs (m.limit c.args.store) (m.max_edge c.args.store) in
    let d = ran g.V.Value.algebra g.W.Value.algebra g.R.RuleSet.replies g.R.RuleSet.lawful c.new-session.result.graph.rules c.loop-request.session.graph.rules c.args.rules _ v' _ c.args.requests.now _ _
    n.rules i.0 n.world (take_all c.loop-request.request-index c.args.requests.now c.loop-request-test.false) c.new-session.result.graph.well i.1 in
    let e = c.into_graph.ensures in
    let B : Graph g.row.R.Denot g.row.S.Denot g.R.RuleSet g.S.NodeStore → Type 0 = λ z. Ran g.V.Value.algebra g.W.Value.algebra (g.R.RuleSet.replies c.args.rules) v' c.args.requests.now (map told (vec_items c.loop-request.answers)) (state z) in
    record {
      ran = subst B (sym e) d.0;
      rules = ap (λ (z : Graph g.row.R.Denot g.row.S.Denot g.R.RuleSet g.S.NodeStore). z.rules) e ∙ d.1;
    }
