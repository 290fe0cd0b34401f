use Rattle.std.proofs.Common.{◌≡◌, ◌++◌, drop}
use Rattle.std.specs.Prelude.{string_bytes}
use Rattle.std.specs.List.{flat_map}
use Rattle.sample_readings.specs.Answers.{output, added}
use Rattle.sample_readings.proofs.answer.added_text.Given as goal

-- what is told and what is left to tell make the whole
abbrev pub invariant-loop-output : goal.invariant-loop-output
invariant-loop-output l =
    string_bytes l.text ++ flat_map output (drop l.output-index l.outputs) ≡ added l.fn.count l.outputs
