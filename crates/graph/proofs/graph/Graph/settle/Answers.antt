use Rattle.std.proofs.Common.{◌+◌, ◌<◌, ◌≤◌, sym, refl, ap, ◌∙◌, arith}
use Rattle.rules.specs.Edges.{node}
use Rattle.graph_model.specs.declared.settled.Settled.TheVariants.{ToStore}
use Rattle.graph.proofs.Turns.{turn, turn_by, no_turns}
use Rattle.graph.proofs.graph.Graph.settle.Goals as goal

pub returns-in-Some : goal.returns-in-Some
returns-in-Some g c =
    let h : c.loop-turn._turn < node c.args.x + node c.args.y + 1 = omega arith in
    sym (c.loop-turn.invariant ∙ turn _ _ _ _ c.loop-turn.u c.loop-turn.v _ _ h (sym c.trivial_and.ensures ∙ c.in-Some.is) refl)

pub returns-in-Edge : goal.returns-in-Edge
returns-in-Edge g c =
    let h : c.loop-turn._turn < node c.args.x + node c.args.y + 1 = omega arith in
    sym (c.loop-turn.invariant ∙ turn_by _ _ _ _ c.loop-turn.u c.loop-turn.v h c.trivial_and.ensures c.in_default.is c.new-pair.ensures c.window.ensures c.reply.ensures c.in-Edge.is)

pub returns-in-Store : goal.returns-in-Store
returns-in-Store g c =
    let h : c.loop-turn._turn < node c.args.x + node c.args.y + 1 = omega arith in
    ap ToStore c.new-pair.ensures
    ∙ sym (c.loop-turn.invariant ∙ turn_by _ _ _ _ c.loop-turn.u c.loop-turn.v h c.trivial_and.ensures c.in_default.is c.new-pair.ensures c.window.ensures c.reply.ensures c.in-Store.is)

pub loop-turn-preserved : goal.loop-turn-preserved
loop-turn-preserved g c =
    let h : c.loop-turn._turn < node c.args.x + node c.args.y + 1 = omega arith in
    c.loop-turn.invariant ∙ turn_by _ _ _ _ c.loop-turn.u c.loop-turn.v h c.trivial_and.ensures c.in_default.is c.new-pair.ensures c.window.ensures c.reply.ensures c.in-Pair.is

pub returns : goal.returns
returns g c =
    let h : node c.args.x + node c.args.y + 1 ≤ c.loop-turn._turn = omega arith in
    ap ToStore c.new.ensures ∙ sym (c.loop-turn.invariant ∙ no_turns _ _ _ _ c.loop-turn.u c.loop-turn.v h)
