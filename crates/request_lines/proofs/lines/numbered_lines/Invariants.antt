use Rattle.std.proofs.Common.{◌≡◌, ℕ, ◌+◌, ◌++◌, List, map, drop, vec_items}
use Rattle.std.specs.Borrow.{Bor}
use Rattle.request_lines.specs.Split.{numbered}
use Rattle.request_lines.proofs.lines.numbered_lines.Given as goal

-- the lines with numbers so far, and those that are left, make the whole
abbrev pub invariant-loop-i : goal.invariant-loop-i
invariant-loop-i l =
    map (λ (x : ℕ × Bor (List ℕ)). (x.0, x.1.now)) (vec_items l.found) ++ numbered (l.i + 1) (map (λ (x : Bor (List ℕ)). x.now) (drop l.i l.whole)) ≡ numbered 1 (map (λ (x : Bor (List ℕ)). x.now) l.whole)
