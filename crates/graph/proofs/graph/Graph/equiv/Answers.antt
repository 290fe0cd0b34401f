use Rattle.std.proofs.Common.{◌+◌, Ok, Err, refl, ap, ◌∙◌}
use Rattle.rules.specs.Edges.{complement}
use Rattle.graph_model.specs.Operations.{apply_of, equiv_of, nand_of}
use Rattle.graph.specs.States.{state}
use Rattle.graph.proofs.Chains.{Did, did_nand, did_and, did_as, goes_on, stops, refused, as_number}
use Rattle.graph.proofs.graph.Graph.equiv.Goals.{In_ok-p, In_ok-q}
use Rattle.graph.proofs.graph.Graph.equiv.Goals as goal

-- the first NAND was answered
first : (g : _) (c : In_ok-p g) → Did (nand_of (g.R.RuleSet.replies c.args.self.now.rules) (state c.args.self.now) c.args.x (complement c.args.y)) (Ok (c.in_ok-p.p, c.in_ok-p.first)) (state c.nand.new.self)
first g c =
    let s = c.args.self.now in
    let e = c.in_ok-p.ensures in
    did_nand g.R.RuleSet.replies (state s) _ s.rules s.rules c.args.x (complement c.args.y) _ _ _ refl refl c.complement-not_y.ensures e.answer e.graph

-- the second was answered
second : (g : _) (c : In_ok-q g) → Did (nand_of (g.R.RuleSet.replies c.args.self.now.rules) (state c.nand.new.self) (complement c.args.x) c.args.y) (Ok (c.in_ok-q.q, c.in_ok-q.second)) (state c.nand-2.new.self)
second g c =
    let e = c.in_ok-q.ensures in
    did_nand g.R.RuleSet.replies (state c.nand.new.self) _ c.args.self.now.rules _ (complement c.args.x) c.args.y _ _ _ c.in_ok-p.ensures.rules c.complement-not_x.ensures refl e.answer e.graph

pub returns-in_err-p : goal.returns-in_err-p
unfolding apply_of equiv_of
returns-in_err-p g c =
    let s = c.args.self.now in
    let e = c.in_err-p.ensures in
    let d = did_nand g.R.RuleSet.replies (state s) _ s.rules s.rules c.args.x (complement c.args.y) _ _ (Err c.in_err-p.field-0.0) refl refl c.complement-not_y.ensures e.answer e.graph in
    let z = did_as _ _ (stops _ _ _ _ d) in
    record { answer = refused _ _ c.from_residual.ensures.1 ∙ z.answer; graph = z.after; rules = e.rules }

pub returns-in_err-q : goal.returns-in_err-q
unfolding apply_of equiv_of
returns-in_err-q g c =
    let s = c.args.self.now in
    let e = c.in_err-q.ensures in
    let e1 = c.in_ok-p.ensures in
    let d = did_nand g.R.RuleSet.replies (state c.nand.new.self) _ s.rules _ (complement c.args.x) c.args.y _ _ (Err c.in_err-q.field-0.0) e1.rules c.complement-not_x.ensures refl e.answer e.graph in
    let z = did_as _ _ (goes_on _ _ _ _ _ (first g (goal.at.returns-in_err-q g c).In_ok-p) ∙ stops _ _ _ _ d) in
    record { answer = refused _ _ c.from_residual-in_err-q.ensures.1 ∙ z.answer; graph = z.after; rules = e.rules ∙ e1.rules }

pub returns-in_err-edge : goal.returns-in_err-edge
unfolding apply_of equiv_of
returns-in_err-edge g c =
    let at = goal.at.returns-in_err-edge g c in
    let s = c.args.self.now in
    let e = c.in_err-edge.ensures in
    let kept = c.in_ok-q.ensures.rules ∙ c.in_ok-p.ensures.rules in
    let d = did_and g.R.RuleSet.replies (state c.nand-2.new.self) _ s.rules _ c.in_ok-p.p c.in_ok-q.q _ _ (Err c.in_err-edge.field-0.0) kept refl refl e.answer e.graph in
    let z = did_as _ _ (goes_on _ _ _ _ _ (first g at.In_ok-p) ∙ goes_on _ _ _ _ _ (second g at.In_ok-q) ∙ stops _ _ _ _ d) in
    record { answer = refused _ _ c.from_residual-in_err-edge.ensures.1 ∙ z.answer; graph = z.after; rules = e.rules ∙ kept }

pub returns : goal.returns
unfolding apply_of equiv_of
returns g c =
    let at = goal.at.returns g c in
    let s = c.args.self.now in
    let e = c.in_ok-edge.ensures in
    let kept = c.in_ok-q.ensures.rules ∙ c.in_ok-p.ensures.rules in
    let d = did_and g.R.RuleSet.replies (state c.nand-2.new.self) _ s.rules _ c.in_ok-p.p c.in_ok-q.q _ _ (Ok (c.in_ok-edge.edge, c.in_ok-edge.third)) kept refl refl e.answer e.graph in
    let z = did_as _ _ (goes_on _ _ _ _ _ (first g at.In_ok-p) ∙ goes_on _ _ _ _ _ (second g at.In_ok-q) ∙ goes_on _ _ _ _ _ d) in
    record { answer = ap (λ n. Ok (c.in_ok-edge.edge, c.in_ok-p.first + c.in_ok-q.second + n)) (c.from.ensures ∙ as_number c.in_ok-edge.third) ∙ z.answer; graph = z.after; rules = e.rules ∙ kept }
