use Rattle.std.proofs.Common.{◌≡◌, ◌+◌, ◌-◌}
use Rattle.rules.specs.Edges.{node}
use Rattle.graph_model.specs.Requests.{settle, settlement}
use Rattle.graph.specs.States.{state}
use Rattle.graph.proofs.graph.Graph.settle.Given as goal

-- the operands come to what the edges at hand come to with the turns that are left
abbrev pub invariant-loop-turn : goal.invariant-loop-turn
invariant-loop-turn g l =
    let b = g.R.RuleSet.replies l.self.rules in
    let s = state l.self in
    settlement b s l.initial.u l.initial.v ≡ settle b s (node l.initial.u + node l.initial.v + 1 - l._turn) l.u l.v
