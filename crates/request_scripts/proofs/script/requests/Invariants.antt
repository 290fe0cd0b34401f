use Rattle.std.proofs.Common.{◌≤◌, ◌++◌, List, drop, vec_items}
use Rattle.history_model.specs.declared.request.Request.{Request}
use Rattle.request_scripts.specs.Steps.{Asks}
use Rattle.request_scripts.proofs.script.requests.Given as goal

-- what requests the steps that are left make decides what all make
abbrev pub invariant-loop-step : goal.invariant-loop-step
invariant-loop-step g l = record {
  few : l.most ≤ 1000000;
  decides : (rs : List (Request g.row.W.Denot)) → Asks l.opening l.most (drop l.step-index l.steps) rs → Asks l.opening 0 l.steps (vec_items l.requests ++ rs);
}
