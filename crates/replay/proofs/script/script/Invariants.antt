use Rattle.std.proofs.Common.{◌≡◌, vec_items}
use Rattle.replay.specs.Steps.{StepsFor}
use Rattle.replay.proofs.script.script.Given as goal

-- the script so far is that of the lines so far
abbrev pub invariant-loop-number : goal.invariant-loop-number
invariant-loop-number l = record {
  opening : l.script.opening ≡ l.fn.section.opening;
  steps : StepsFor l.yielded (vec_items l.script.steps);
}
