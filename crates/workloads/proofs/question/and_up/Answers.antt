use Rattle.std.proofs.Common.{◌≡◌, ◌+◌, subst, arith}
use Rattle.graph_model.proofs.Requests.{extends_refl, extends_trans, ands_extends}
use Rattle.graph.specs.States.{state}
use Rattle.workloads.specs.Questions.{Means, all_true}
use Rattle.workloads.proofs.Stepping.{input, and_means, means_as, first_all, next_all}
use Rattle.workloads.proofs.question.and_up.Goals as goal

pub loop-input-init : goal.loop-input-init
loop-input-init g c =
    let s = state c.args.graph.now in
    (extends_refl s, means_as s _ _ _ first_all (input s 0 (omega (arith, c.requires))))

pub returns-in_err-next-clause-graph : goal.returns-in_err-next-clause-graph
returns-in_err-next-clause-graph g c = extends_trans _ _ _ c.loop-input.invariant.0 (ands_extends c.in_err-next.ensures.cases)

pub loop-input-preserved : goal.loop-input-preserved
loop-input-preserved g c =
    let graph = c.loop-input.graph in
    let inv = c.loop-input.invariant in
    let n = c.loop-input.input in
    let known = input (state graph) n (omega (arith, inv.0.inputs, c.requires, c.loop-input-test.true)) in
    let step = and_means _ (g.R.RuleSet.lawful graph.rules) (state graph) (state c.and.new.self) graph.well _ _ c.in_ok-next.next c.in_ok-next._added (λ ρ. all_true ρ n) (λ ρ. ρ (n + 1)) inv.1 known c.in_ok-next.ensures.cases in
    (extends_trans _ _ _ inv.0 step.0, means_as (state c.and.new.self) _ _ _ (λ ρ. next_all ρ n) step.1)

pub returns : goal.returns
returns g c =
    let e : c.loop-input.input ≡ 16 = omega (arith, c.loop-input-test.false, c.loop-input.auto.input-end) in
    record { graph = c.loop-input.invariant.0; answer = subst (λ n. Means (state c.loop-input.graph) c.loop-input.edge (λ ρ. all_true ρ n)) e c.loop-input.invariant.1 }
