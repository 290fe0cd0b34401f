-- Lines, graph by graph.
use Rattle.std.proofs.Common.{◌≡◌, ℕ, zero, suc, ◌+◌, length, get_or, set, List, [], ◌∷◌, ◌++◌, Option, sym, ap, ◌∙◌, append_assoc, append-nil, arith}
use Rattle.std.specs.List.{flat_map}
use Rattle.request_lines.specs.declared.line.Line.{Line}
use Rattle.request_lines.specs.declared.sections.Section.{Section}
use Rattle.request_lines.specs.Parses.{Parsed}
use Rattle.request_lines.specs.Sections.{Says, section_lines}

last_more : (gs : List Section) (i : ℕ) (g s : Section) (l : ℕ × Option Line) → i + 1 ≡ length gs → g ≡ get_or gs i g → section_lines s ≡ section_lines g ++ (l ∷ []) → flat_map section_lines (set gs i s) ≡ flat_map section_lines gs ++ (l ∷ [])
last_more [] i g s l last at e = absurd (omega arith)
last_more (x ∷ []) zero g s l last at e = append-nil (section_lines s) ∙ e ∙ ap (λ z. section_lines z ++ (l ∷ [])) at ∙ ap (λ z. z ++ (l ∷ [])) (sym (append-nil (section_lines x)))
last_more (x ∷ []) (suc i) g s l last at e = absurd (omega arith)
last_more (x ∷ y ∷ ys) zero g s l last at e = absurd (omega arith)
last_more (x ∷ y ∷ ys) (suc i) g s l last at e = ap (λ z. section_lines x ++ z) (last_more (y ∷ ys) i g s l (omega arith) at e) ∙ sym (append_assoc (section_lines x) (flat_map section_lines (y ∷ ys)) (l ∷ []))

-- one line more in the last section
pub line_more : (before : List (ℕ × Option Line)) (gs : List Section) (i : ℕ) (g s : Section) (l : ℕ × Option Line) → i + 1 ≡ length gs → g ≡ get_or gs i g → section_lines s ≡ section_lines g ++ (l ∷ [])
    → before ++ flat_map section_lines (set gs i s) ≡ before ++ flat_map section_lines gs ++ (l ∷ [])
line_more before gs i g s l last at e = ap (λ z. before ++ z) (last_more gs i g s l last at e) ∙ sym (append_assoc before (flat_map section_lines gs) (l ∷ []))

pub says_push : (bs : List (ℕ × List ℕ)) (ls : List (ℕ × Option Line)) (b : ℕ × List ℕ) (l : ℕ × Option Line) → Says bs ls → l.0 ≡ b.0 → Parsed b.1 l.1 → Says (bs ++ (b ∷ [])) (ls ++ (l ∷ []))
says_push [] [] b l h n p = (n, p, tt)
says_push [] (x ∷ ls) b l h n p = absurd h
says_push (y ∷ bs) [] b l h n p = absurd h
says_push (y ∷ bs) (x ∷ ls) b l h n p = (h.0, h.1, says_push bs ls b l h.2 n p)
