use Rattle.std.proofs.Common.{Option, ap, rules}
use Rattle.rules.specs.declared.pair.Pair.{Pair}
use Rattle.rules.specs.declared.window.Operand.{Operand}
use Rattle.graph.specs.States.{state}
use Rattle.graph.proofs.Turns.{stored_at}
use Rattle.graph.proofs.graph.Graph.operand.Goals as goal

pub returns : goal.returns
returns g c =
    let O : Option Pair → Operand = λ o. record { edge = c.args.edge; children = o } in
    ap O (stored_at (state c.args.self.now) c.args.edge c.node.result c.checked_sub-position.result _ _ c.node.ensures c.checked_sub-position.ensures (λ k q. search rules) c.and_then-children.ensures)
