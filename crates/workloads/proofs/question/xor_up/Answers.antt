use Rattle.std.proofs.Common.{◌≡◌, ◌+◌, subst, arith}
use Rattle.graph_model.specs.declared.operation.Operation.TheVariants.{Xor}
use Rattle.graph_model.proofs.Operations.{apply_extends}
use Rattle.graph_model.proofs.Requests.{extends_refl, extends_trans}
use Rattle.graph.specs.States.{state}
use Rattle.workloads.specs.Questions.{Means, parity}
use Rattle.workloads.proofs.Stepping.{input, xor_means, means_as, first_parity, next_parity, extends_as}
use Rattle.workloads.proofs.question.xor_up.Goals as goal

pub loop-input-init : goal.loop-input-init
loop-input-init g c =
    let s = state c.args.graph.now in
    (extends_refl s, means_as s _ _ _ first_parity (input s 0 (omega (arith, c.requires))))

pub returns-in_err-next-clause-graph : goal.returns-in_err-next-clause-graph
returns-in_err-next-clause-graph g c =
    let graph = c.loop-input.graph in
    extends_trans _ _ _ c.loop-input.invariant.0 (extends_as _ _ _ c.in_err-next.ensures.graph (apply_extends _ (g.R.RuleSet.lawful graph.rules) (state graph) graph.well Xor _ _))

pub loop-input-preserved : goal.loop-input-preserved
loop-input-preserved g c =
    let graph = c.loop-input.graph in
    let inv = c.loop-input.invariant in
    let n = c.loop-input.input in
    let known = input (state graph) n (omega (arith, inv.0.inputs, c.requires, c.loop-input-test.true)) in
    let step = xor_means _ (g.R.RuleSet.lawful graph.rules) (state graph) (state c.xor.new.self) graph.well _ _ c.in_ok-next.next c.in_ok-next._added (λ ρ. parity ρ n) (λ ρ. ρ (n + 1)) inv.1 known c.in_ok-next.ensures.answer c.in_ok-next.ensures.graph in
    (extends_trans _ _ _ inv.0 step.0, means_as (state c.xor.new.self) _ _ _ (λ ρ. next_parity ρ n) step.1)

pub returns : goal.returns
returns g c =
    let e : c.loop-input.input ≡ 16 = omega (arith, c.loop-input-test.false, c.loop-input.auto.input-end) in
    record { graph = c.loop-input.invariant.0; answer = subst (λ n. Means (state c.loop-input.graph) c.loop-input.edge (λ ρ. parity ρ n)) e c.loop-input.invariant.1 }
