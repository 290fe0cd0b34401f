-- Cutting the first line off a text.
use Rattle.std.proofs.Common.{◌≡◌, ℕ, zero, suc, ◌+◌, ◌-◌, ◌<◌, ◌≤◌, eqb, List, [], ◌∷◌, length, get_or, take, drop, sym, refl, ap, ◌∙◌, add-zero, arith}
use Rattle.std.proofs.lemmas.Bool.{cond_both, cond-true, cond-false, eq-eqb, ne_eqb}
use Rattle.std.proofs.lemmas.List.{drop-drop, get_or-drop, length-drop}
use Rattle.aiger_check.specs.Text.{onto, lines, IsLine}

pub lines_none : (bs : List ℕ) → length bs ≡ 0 → lines bs ≡ []
lines_none [] h = refl
lines_none (b ∷ bs) h = absurd (omega arith)

-- the line without its first byte
after_first : (b : ℕ) (bs : List ℕ) (p : ℕ) → IsLine (b ∷ bs) (suc (suc p)) → IsLine bs (suc p)
after_first b bs p l =
    let last : suc (suc p) - 1 ≡ suc p = omega arith in
    let last' : suc p - 1 ≡ p = omega arith in
    record {
      within = omega (arith, l.within);
      one = λ k h e. l.one (suc k) (omega arith) e;
      ends = λ h. ap (λ n. get_or bs n 0) last' ∙ ap (λ n. get_or (b ∷ bs) n 0) (sym last) ∙ l.ends (omega arith);
      some = λ h. omega arith;
    }

pub cut : (bs : List ℕ) (n : ℕ) → 0 < length bs → IsLine bs n → lines bs ≡ take n bs ∷ lines (drop n bs)
cut [] n some l = absurd (omega arith)
cut (b ∷ bs) zero some l = absurd (omega (arith, l.some some))
cut (b ∷ []) (suc zero) some l = cond_both (eqb b 10) ((b ∷ []) ∷ []) ((b ∷ []) ∷ []) (λ x. x ≡ (b ∷ []) ∷ []) (λ e. refl) (λ e. refl)
cut (b ∷ c ∷ cs) (suc zero) some l = cond-true (eqb b 10) _ _ (eq-eqb b 10 (l.ends (omega arith)))
cut (b ∷ bs) (suc (suc p)) some l =
    cond-false (eqb b 10) _ _ (ne_eqb b 10 (l.one 0 (omega arith)))
    ∙ ap (onto b) (cut bs (suc p) (omega (arith, l.within)) (after_first b bs p l))

-- the reader's place: the lines from place p on are those from number k on
module _ (bs : List ℕ) (p k : ℕ) (whole : lines (drop p bs) ≡ drop k (lines bs)) where
  pub at_end : length (drop p bs) ≡ 0 → length (lines bs) ≤ k
  at_end none = omega (arith, length-drop k (lines bs), ap length (sym whole ∙ lines_none (drop p bs) none))

  module _ (n : ℕ) (some : 0 < length (drop p bs)) (line : IsLine (drop p bs) n) where
    split : drop k (lines bs) ≡ take n (drop p bs) ∷ lines (drop n (drop p bs))
    split = sym whole ∙ cut (drop p bs) n some line

    pub here : take n (drop p bs) ≡ get_or (lines bs) k []
    here = sym (ap (λ l. get_or l 0 []) split) ∙ get_or-drop k (lines bs) 0 [] ∙ ap (λ j. get_or (lines bs) j []) (add-zero k)

    pub more : k < length (lines bs)
    more = omega (arith, length-drop k (lines bs), ap length split)

    pub on : lines (drop (p + n) bs) ≡ drop (k + 1) (lines bs)
    on = sym (ap lines (drop-drop n p bs)) ∙ sym (ap (drop 1) split) ∙ drop-drop 1 k (lines bs)
