use Rattle.std.proofs.Common.{◌≡◌, ◌*◌, ◌-◌}
use Rattle.graph_model.specs.WellFormed.{Extends}
use Rattle.graph.specs.States.{state}
use Rattle.workloads.specs.Growths.{growth}
use Rattle.workloads.proofs.growth.grow.Given as goal

-- the whole growth comes to what it comes to from here with the calls that are left
abbrev pub invariant-loop-calls : goal.invariant-loop-calls
invariant-loop-calls g l =
    let b = g.R.RuleSet.replies l.initial.graph.rules in
    (growth b l.nodes (4 * l.nodes) 0 (state l.initial.graph) l.initial.random.state ≡ growth b l.nodes (4 * l.nodes - l.calls) l.calls (state l.graph) l.random.state)
    × (l.graph.rules ≡ l.initial.graph.rules)
    × Extends (state l.initial.graph) (state l.graph)
