use Rattle.std.proofs.Common.{refl}
use Rattle.rules.specs.Edges.{complement}
use Rattle.graph_model.specs.Operations.{apply_of}
use Rattle.graph.specs.States.{state}
use Rattle.graph.proofs.Chains.{did_nand}
use Rattle.graph.proofs.graph.Graph.or.Goals as goal

pub returns : goal.returns
unfolding apply_of
returns g c =
    let s = c.args.self.now in
    let e = c.nand.ensures in
    let d = did_nand g.R.RuleSet.replies (state s) _ s.rules s.rules (complement c.args.x) (complement c.args.y) _ _ _ refl c.complement.ensures c.complement-2.ensures e.answer e.graph in
    record { answer = d.answer; graph = d.after; rules = e.rules }
