use Rattle.std.proofs.Common.{◌≡◌, ◌++◌, take, vec_items}
use Rattle.answer_lines.specs.Answers.{spaced_pairs}
use Rattle.answer_lines.proofs.listed.push_pairs.Given as goal

abbrev pub invariant-loop-pair : goal.invariant-loop-pair
invariant-loop-pair l = vec_items l.line ≡ vec_items l.initial.line ++ spaced_pairs (take l.pair-index l.pairs)
