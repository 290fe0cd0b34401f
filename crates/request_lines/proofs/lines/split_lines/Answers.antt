use Rattle.std.proofs.Common.{◌≡◌, ℕ, List, [], ◌∷◌, ◌++◌, map, cond, eqb, false, IfOk, vec_items, sym, refl, ap, ◌∙◌, subst}
use Rattle.std.proofs.lemmas.Bool.{ne_eqb}
use Rattle.std.specs.Borrow.{Bor}
use Rattle.std.specs.List.{slice_split, onto_first}
use Rattle.request_lines.specs.Split.{lines_of}
use Rattle.request_lines.proofs.lines.split_lines.Goals as goal

lines_ended : (bs : List ℕ) → lines_of (bs ++ (10 ∷ [])) ≡ slice_split (λ (b : ℕ). eqb b 10) bs
lines_ended [] = refl
lines_ended (x ∷ xs) = ap (λ z. cond (eqb x 10) ([] ∷ z) (onto_first x z)) (lines_ended xs)

lines_unended : (bs : List ℕ) (l : ℕ) → eqb l 10 ≡ false → lines_of (bs ++ (l ∷ [])) ≡ slice_split (λ (b : ℕ). eqb b 10) (bs ++ (l ∷ []))
lines_unended [] l h = ap (λ t. cond t ([] ∷ []) ((l ∷ []) ∷ [])) h ∙ sym (ap (λ t. cond t ([] ∷ [] ∷ []) ((l ∷ []) ∷ [])) h)
lines_unended (x ∷ xs) l h = ap (λ z. cond (eqb x 10) ([] ∷ z) (onto_first x z)) (lines_unended xs l h)

pub returns-then-last-eq10 : goal.returns-then-last-eq10
returns-then-last-eq10 c =
    let before = c.in-Some.before.now in
    let whole = c.in-Some.ensures.cases.0 ∙ ap (λ z. before ++ (z ∷ [])) c.if-last-eq10.true in
    let P : List (List ℕ) → Type 0 = λ z. IfOk c.between.result (λ v. map (λ (x : Bor (List ℕ)). x.now) (vec_items v) ≡ z) in
    subst P (sym (lines_ended before) ∙ ap lines_of (sym whole)) c.between.ensures

pub returns-else-last-eq10 : goal.returns-else-last-eq10
returns-else-last-eq10 c =
    let whole = c.in-Some.ensures.cases.0 in
    let P : List (List ℕ) → Type 0 = λ z. IfOk c.between-else-last-eq10.result (λ v. map (λ (x : Bor (List ℕ)). x.now) (vec_items v) ≡ z) in
    subst P (ap (slice_split (λ (b : ℕ). eqb b 10)) whole ∙ sym (lines_unended c.in-Some.before.now c.in-Some.last.now (ne_eqb c.in-Some.last.now 10 c.if-last-eq10.false)) ∙ ap lines_of (sym whole)) c.between-else-last-eq10.ensures
