use Rattle.std.proofs.Common.{◌≡◌, ◌++◌, length, vec_items}
use Rattle.std.specs.List.{AllByRecursion}
use Rattle.request_lines.specs.Lines.{Short, numbers_text}
use Rattle.request_lines.specs.Parts.{Spaced}
use Rattle.request_lines.proofs.numbers.numbers.Given as goal

-- the numbers found so far, and what is left
abbrev pub invariant-loop-left : goal.invariant-loop-left
invariant-loop-left l = record {
  so_far : l.bytes ≡ numbers_text (vec_items l.found) ++ l.left;
  short : AllByRecursion Short (vec_items l.found);
  spaced : Spaced l.left;
}

abbrev pub decreases-loop-left : goal.decreases-loop-left
decreases-loop-left l = length l.left
