use Rattle.std.proofs.Common.{◌≡◌, ◌≤◌, ◌++◌, map, drop, vec_items}
use Rattle.history_model.specs.Histories.{told}
use Rattle.request_scripts.specs.Scripts.{script_text}
use Rattle.request_scripts.proofs.script.script_lines.Given as goal

-- the text so far, and that of the steps that are left, make the whole
abbrev pub invariant-loop-step : goal.invariant-loop-step
invariant-loop-step g l = record {
  few : l.size ≤ l.limit;
  whole : vec_items l.text ++ script_text l.inputs l.limit l.size (drop l.step-index l.steps) (map told l.left) ≡ script_text l.inputs l.limit 0 l.steps (map told l.initial.left);
}
