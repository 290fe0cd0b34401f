use Rattle.std.proofs.Common.{◌≡◌, ◌+◌, ◌-◌, ◌*◌, refl, subst, arith}
use Rattle.values.specs.Bit.{bit_algebra}
use Rattle.rules.specs.Edges.{edge}
use Rattle.graph_model.specs.declared.operation.Operation.TheVariants.{Xor}
use Rattle.graph_model.specs.Graphs.{meaning}
use Rattle.graph_model.proofs.Operations.{apply_extends}
use Rattle.graph_model.proofs.Requests.{extends_refl, extends_trans}
use Rattle.graph.specs.States.{state}
use Rattle.workloads.specs.Questions.{Means}
use Rattle.workloads.proofs.Stepping.{input, xor_means, extends_as, Completes, last_completes, all_complete, one_completes}
use Rattle.workloads.proofs.question.xor_down.Goals as goal

pub loop-done-init : goal.loop-done-init
loop-done-init g c =
    let s = state c.args.graph.now in
    (extends_refl s, last_completes s (edge 32) (input s 15 (omega (arith, c.requires))))

pub returns-in_err-next-clause-graph : goal.returns-in_err-next-clause-graph
returns-in_err-next-clause-graph g c =
    let graph = c.loop-done.graph in
    extends_trans _ _ _ c.loop-done.invariant.0 (extends_as _ _ _ c.in_err-next.ensures.graph (apply_extends _ (g.R.RuleSet.lawful graph.rules) (state graph) graph.well Xor _ _))

pub loop-done-preserved : goal.loop-done-preserved
loop-done-preserved g c =
    let graph = c.loop-done.graph in
    let s = state graph in
    let inv = c.loop-done.invariant in
    let k = 16 - (c.loop-done.done + 1) in
    let one : 16 - c.loop-done.done ≡ k + 1 = omega (arith, c.loop-done-test.true) in
    let place : 2 * (k + 1) ≡ 2 * (16 - c.loop-done.done) = omega (arith, c.loop-done-test.true) in
    let known = subst (λ n. Means s (edge n) (λ ρ. ρ (k + 1))) place (input s k (omega (arith, inv.0.inputs, c.requires))) in
    let step = xor_means _ (g.R.RuleSet.lawful graph.rules) s (state c.xor.new.self) graph.well _ _ c.in_ok-next.next c.in_ok-next._added (λ ρ. ρ (k + 1)) (λ ρ. meaning bit_algebra ρ s c.loop-done.edge) known (inv.1.0, λ ρ. refl) c.in_ok-next.ensures.answer c.in_ok-next.ensures.graph in
    (extends_trans _ _ _ inv.0 step.0, one_completes s (state c.xor.new.self) _ _ k (subst (Completes s c.loop-done.edge) one inv.1) step.1)

pub returns : goal.returns
returns g c =
    let e : 16 - c.loop-done.done ≡ 0 = omega (arith, c.loop-done-test.false) in
    record { graph = c.loop-done.invariant.0; answer = all_complete (state c.loop-done.graph) _ (subst (Completes (state c.loop-done.graph) c.loop-done.edge) e c.loop-done.invariant.1) }
