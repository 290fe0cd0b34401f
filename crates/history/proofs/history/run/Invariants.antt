use Rattle.std.proofs.Common.{◌≡◌, map, take, vec_items}
use Rattle.history_model.specs.Histories.{told}
use Rattle.history.specs.Worlds.{world}
use Rattle.history.proofs.Running.{Running}
use Rattle.history.proofs.history.run.Given as goal

-- the requests so far were made of the new graph, and `answers` has their answers
abbrev pub invariant-loop-request : goal.invariant-loop-request
invariant-loop-request g l =
    (l.session.graph.rules ≡ l.initial.session.graph.rules)
    × Running g.W.Value.algebra (g.R.RuleSet.replies l.initial.session.graph.rules) (world l.initial.session) (take l.request-index l.requests) (map told (vec_items l.answers)) (world l.session)
