use Rattle.std.proofs.Common.{◌≡◌, ◌*◌, ◌-◌, Ok, Err, sym, refl, ap, ◌∙◌, arith}
use Rattle.rules.specs.Edges.{edge}
use Rattle.graph_model.specs.Requests.{and_of}
use Rattle.graph_model.proofs.Requests.{extends_refl, extends_trans, ands_extends}
use Rattle.graph.specs.States.{state}
use Rattle.workloads.specs.Growths.{Growth, growth}
use Rattle.workloads.proofs.Growing.{called, enough, no_more, goes_on, stops, refused}
use Rattle.workloads.proofs.growth.grow.Goals as goal

pub loop-calls-init : goal.loop-calls-init
loop-calls-init g c =
    let e : 4 * c.args.nodes ≡ 4 * c.args.nodes - 0 = omega arith in
    (ap (λ k. growth (g.R.RuleSet.replies c.args.graph.now.rules) c.args.nodes k 0 (state c.args.graph.now) c.args.random.now.state) e, refl, extends_refl (state c.args.graph.now))

pub returns-then-size-nodes : goal.returns-then-size-nodes
returns-then-size-nodes g c =
    let inv = c.loop-calls.invariant in
    let b = g.R.RuleSet.replies c.args.graph.now.rules in
    let e = inv.0 ∙ enough b c.args.nodes (4 * c.args.nodes) c.loop-calls.calls (state c.loop-calls.graph) c.loop-calls.random.state (omega (arith, c.if-size-nodes.true, c.size.ensures.answer)) in
    record {
      answer = ap (λ (z : Growth). z.answer) (sym e);
      graph = ap (λ (z : Growth). z.graph) (sym e);
      state = ap (λ (z : Growth). z.state) (sym e);
      rules = inv.1;
      kept = inv.2;
    }

pub returns-in_err-and : goal.returns-in_err-and
returns-in_err-and g c =
    let inv = c.loop-calls.invariant in
    let b = g.R.RuleSet.replies c.args.graph.now.rules in
    let s = state c.loop-calls.graph in
    let x = edge c.below.result in
    let y = edge c.below-in-loop-calls.result in
    let call = called b s (state c.and.new.self) c.loop-calls.random.state (2 * c.nodes-edges.result) c.below.result c.below.new.self.state c.below-in-loop-calls.result c.below-in-loop-calls.new.self.state (Err c.in_err-and.field-0.0)
    (ap (λ z. 2 * z) c.nodes-edges.ensures.answer) c.below.ensures.answer c.below.ensures.state c.below-in-loop-calls.ensures.answer c.below-in-loop-calls.ensures.state
    (c.in_err-and.ensures.answer ∙ ap (λ r. (and_of (g.R.RuleSet.replies r) s x y).answer) inv.1) (c.in_err-and.ensures.graph ∙ ap (λ r. (and_of (g.R.RuleSet.replies r) s x y).after) inv.1) in
    let e = inv.0 ∙ stops b c.args.nodes (4 * c.args.nodes) c.loop-calls.calls s c.loop-calls.random.state (omega (arith, c.loop-calls-test.true, c.from-most.ensures)) (omega (arith, c.if-size-nodes.false, c.size.ensures.answer)) _ _ _ call in
    record {
      answer = refused _ _ c.from_residual.ensures.1 ∙ ap (λ (z : Growth). z.answer) (sym e);
      graph = ap (λ (z : Growth). z.graph) (sym e);
      state = ap (λ (z : Growth). z.state) (sym e);
      rules = c.in_err-and.ensures.rules ∙ inv.1;
      kept = extends_trans _ _ _ inv.2 (ands_extends c.in_err-and.ensures.cases);
    }

pub loop-calls-preserved : goal.loop-calls-preserved
loop-calls-preserved g c =
    let inv = c.loop-calls.invariant in
    let b = g.R.RuleSet.replies c.args.graph.now.rules in
    let s = state c.loop-calls.graph in
    let x = edge c.below.result in
    let y = edge c.below-in-loop-calls.result in
    let call = called b s (state c.and.new.self) c.loop-calls.random.state (2 * c.nodes-edges.result) c.below.result c.below.new.self.state c.below-in-loop-calls.result c.below-in-loop-calls.new.self.state (Ok c.in_ok-and.field-0)
    (ap (λ z. 2 * z) c.nodes-edges.ensures.answer) c.below.ensures.answer c.below.ensures.state c.below-in-loop-calls.ensures.answer c.below-in-loop-calls.ensures.state
    (c.in_ok-and.ensures.answer ∙ ap (λ r. (and_of (g.R.RuleSet.replies r) s x y).answer) inv.1) (c.in_ok-and.ensures.graph ∙ ap (λ r. (and_of (g.R.RuleSet.replies r) s x y).after) inv.1) in
    (inv.0 ∙ goes_on b c.args.nodes (4 * c.args.nodes) c.loop-calls.calls s c.loop-calls.random.state (omega (arith, c.loop-calls-test.true, c.from-most.ensures)) (omega (arith, c.if-size-nodes.false, c.size.ensures.answer)) _ _ _ call, c.in_ok-and.ensures.rules ∙ inv.1, extends_trans _ _ _ inv.2 (ands_extends c.in_ok-and.ensures.cases))

pub returns : goal.returns
returns g c =
    let inv = c.loop-calls.invariant in
    let b = g.R.RuleSet.replies c.args.graph.now.rules in
    let e = inv.0 ∙ no_more b c.args.nodes (4 * c.args.nodes) c.loop-calls.calls (state c.loop-calls.graph) c.loop-calls.random.state (omega (arith, c.loop-calls-test.false, c.from-most.ensures)) in
    record {
      answer = ap Ok (omega (arith, c.loop-calls-test.false, c.loop-calls.auto.calls-end, c.from-most.ensures)) ∙ ap (λ (z : Growth). z.answer) (sym e);
      graph = ap (λ (z : Growth). z.graph) (sym e);
      state = ap (λ (z : Growth). z.state) (sym e);
      rules = inv.1;
      kept = inv.2;
    }
