use Rattle.std.proofs.Common.{◌≡◌, length, sym, ap, ◌∙◌, arith, rules}
use Rattle.std.proofs.lemmas.List.{take_at}
use Rattle.values.specs.Blocks.{block_algebra}
use Rattle.graph_model.specs.Graphs.{State, nodes, node_values}
use Rattle.questions.specs.Evaluation.{assigned, evaluation, evaluated}
use Rattle.graph.specs.States.{state, replies}
use Rattle.workloads.specs.Growths.{Growth, grown_to}
use Rattle.workloads.specs.Words.{words_of, words, xor_from}
use Rattle.bench.specs.Counts.{grown}
use Rattle.bench.proofs.Filled.{grown_as, filled}
use Rattle.bench.proofs.evaluations.evaluate_once.Goals as goal

pub returns : goal.returns
returns g c =
    let m = g.S.NodeStore.model in
    let s = state c.grow.new.graph in
    let ins = c.in_ok-inputs.inputs.items in
    let whole : grown_to (replies c.new-graph.result) c.args.nodes (state c.new-graph.result) c.new-random.result.state ≡ grown c.args.nodes (m.limit c.args.store) (m.max_edge c.args.store)
    = grown_as _ _ c.args.nodes _ _ _ _ (search rules) c.new-graph.ensures.graph c.new-random.ensures in
    let graph = c.grow.ensures.graph ∙ ap (λ (z : Growth). z.graph) whole in
    let told : c.as_slice-2.result.now ≡ c.evaluate-answer.new.values = c.as_slice-2.ensures.value ∙ take_at _ _ _ (omega (arith, c.evaluate-answer.auto.values, c.as_mut_slice.ensures.len)) in
    let given : c.as_slice.result.now ≡ ins = c.as_slice.ensures.value in
    let old = c.as_mut_slice.result.now in
    let long : length old ≡ nodes s = search rules in
    let values : c.evaluate-answer.new.values ≡ node_values block_algebra (assigned block_algebra ins) s
    = filled s ins old c.evaluate-answer.new.values c.evaluate-answer.result (c.evaluate-answer.ensures.answer ∙ ap (λ z. evaluation s (length z) (length old)) given) (sym c.is_err-2.ensures.value ∙ c.if-is_err-2.false) long (c.evaluate-answer.ensures.values ∙ ap (λ z. evaluated block_algebra s z old) given) in (
      c.size.ensures.answer ∙ ap (λ (z : State). length z.pairs) graph,
      ins,
      c.in_ok-inputs.ensures ∙ ap (words 100) (c.grow.ensures.state ∙ ap (λ (z : Growth). z.state) whole),
      c.xor_of.ensures ∙ ap (λ z. xor_from 0 (words_of z)) (told ∙ values) ∙ ap (λ z. xor_from 0 (words_of (node_values block_algebra (assigned block_algebra ins) z))) graph,
    )
