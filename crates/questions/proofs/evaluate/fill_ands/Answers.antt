use Rattle.std.proofs.Common.{◌≡◌, ◌+◌, ◌<◌, length, take, drop, set, ap, ◌∙◌, ap₂, arith}
use Rattle.std.specs.Iterator.Adapters.{enumerate_source, enumerate_count}
use Rattle.std.proofs.lemmas.List.{length-set, drop-set-lt}
use Rattle.rules.specs.Meaning.{pair_means}
use Rattle.stores.specs.Left.{left}
use Rattle.graph_model.specs.Graphs.{nodes, at, grown}
use Rattle.graph.specs.States.{state}
use Rattle.questions.proofs.Filled.{ands_more, ands_all}
use Rattle.questions.proofs.evaluate.fill_ands.Goals as goal

pub loop-i-preserved : goal.loop-i-preserved
loop-i-preserved g c =
    let k = g.V.Value.algebra in
    let s = state c.args.graph.now in
    let now = c.loop-i.invariant in
    let went = c.in-Some.ensures.goes in
    let step = c.in-Some.ensures.steps in
    let rest = left g.S.NodeStore.model (enumerate_source c.next.new.self) in
    let vs = c.loop-i.values in
    let v = c.pair_value.result in
    let n = s.inputs + 1 + enumerate_count c.loop-i.i-iterator in
    let place : c.inputs.result + 1 + c.in-Some.i ≡ n = omega (arith, c.inputs.ensures.answer, step.1) in
    let next : s.inputs + 1 + enumerate_count c.next.new.self ≡ n + 1 = omega (arith, step.2) in
    let shorter = ap length step.0 in
    let here : n < nodes s = omega (arith, shorter, now.3) in
    let value = c.pair_value.ensures ∙ ap (λ m. pair_means k (at k (take m vs)) c.in-Some.pair) place in (
      went.keeps,
      (went.on now.1).1,
      ap₂ (λ a b. grown k (take a (set vs b v)) rest) next place
          ∙ ands_more k vs n (left g.S.NodeStore.model (enumerate_source c.loop-i.i-iterator)) rest c.in-Some.pair v (omega (arith, here, c.requires, now.5)) step.0 value ∙ now.2,
      omega (arith, shorter, next, now.3),
      ap (λ m. drop (nodes s) (set vs m v)) place ∙ drop-set-lt (nodes s) vs n v here ∙ now.4,
      length-set vs (c.inputs.result + 1 + c.in-Some.i) v ∙ now.5,
    )

pub returns : goal.returns
returns g c =
    let s = state c.args.graph.now in
    let now = c.loop-i.invariant in
    let none = c.in-None.ensures.steps.0.0 in
    ands_all g.V.Value.algebra c.loop-i.values c.args.values.now (grown g.V.Value.algebra (take (s.inputs + 1) c.args.values.now) s.pairs) (s.inputs + 1 + enumerate_count c.loop-i.i-iterator) (nodes s) _ (omega (arith, ap length none, now.3)) none now.2 now.4
