use Rattle.std.proofs.Common.{ℕ, List, map}
use Rattle.std.specs.Borrow.{Bor}
use Rattle.request_lines.specs.Sections.{Says, all_lines, Inside}
use Rattle.request_lines.proofs.sections.in_sections.Given as goal

-- the sections so far have the lines so far
abbrev pub invariant-loop-number : goal.invariant-loop-number
invariant-loop-number l = record {
  lines : Says (map (λ (x : ℕ × Bor (List ℕ)). (x.0, x.1.now)) l.yielded) (all_lines l.sections);
  inside : Inside l.sections;
}
