-- One more number of a line.
use Rattle.std.proofs.Common.{◌≡◌, ℕ, suc, ◌+◌, ◌<◌, ◌≤◌, List, [], ◌∷◌, ◌++◌, length, get_or, take, drop, sym, refl, ap, ◌∙◌, subst, inl, append-nil, arith}
use Rattle.std.proofs.lemmas.List.{drop_more, drop_all, take_all}
use Rattle.aiger_lines.specs.declared.number.DigitFault.{DigitFault}
use Rattle.aiger_lines.specs.Numbers.{DigitFaultAt}
use Rattle.aiger_lines.specs.Forms.{Has, Lacks, form}

-- what is left of the line decides the whole, after the first i numbers
pub record Sofar (bs ends vs : List ℕ) (i : ℕ) (rest : List ℕ) : Type 0 where
  pub lacks : (e : DigitFault) → Lacks (form (drop i ends)) rest e → Lacks (form ends) bs e
  pub has : (ws : List ℕ) → Has (form (drop i ends)) rest ws → Has (form ends) bs (take i vs ++ ws)

module _ (bs ends vs : List ℕ) (i : ℕ) (rest : List ℕ) (s : Sofar bs ends vs i rest) where
  module _ (l : i < length ends) where
    due : (P : List ℕ → Type 0) → P (get_or ends i 0 ∷ drop (i + 1) ends) → P (drop i ends)
    due P p = subst P (sym (drop_more ends i 0 l)) p

    pub bad_number : (e : DigitFault) → DigitFaultAt rest e → Lacks (form ends) bs e
    bad_number e f = s.lacks e (due (λ d. Lacks (form d) rest e) (inl f))

  pub whole : length ends ≤ i → length vs ≤ i → rest ≡ [] → Has (form ends) bs vs
  whole l k e = subst (Has (form ends) bs) (append-nil (take i vs) ∙ take_all i vs k) (s.has [] (subst (λ d. Has (form d) rest []) (sym (drop_all i ends l)) (e, refl)))

-- a line has as many numbers as ends
pub has_length : (ends bs vs : List ℕ) → Has (form ends) bs vs → length vs ≡ length ends
has_length [] bs vs h = ap length h.1
has_length (b ∷ ends) bs [] h = absurd h
has_length (b ∷ ends) bs (v ∷ vs) h = ap suc (has_length ends h.2.0 vs h.2.2)

pub three : (vs : List ℕ) → length vs ≡ 3 → vs ≡ get_or vs 0 0 ∷ get_or vs 1 0 ∷ get_or vs 2 0 ∷ []
three [] h = absurd (omega arith)
three (a ∷ []) h = absurd (omega arith)
three (a ∷ b ∷ []) h = absurd (omega arith)
three (a ∷ b ∷ c ∷ []) h = refl
three (a ∷ b ∷ c ∷ d ∷ vs) h = absurd (omega arith)

pub five : (vs : List ℕ) → length vs ≡ 5 → vs ≡ get_or vs 0 0 ∷ get_or vs 1 0 ∷ get_or vs 2 0 ∷ get_or vs 3 0 ∷ get_or vs 4 0 ∷ []
five [] h = absurd (omega arith)
five (a ∷ []) h = absurd (omega arith)
five (a ∷ b ∷ []) h = absurd (omega arith)
five (a ∷ b ∷ c ∷ []) h = absurd (omega arith)
five (a ∷ b ∷ c ∷ d ∷ []) h = absurd (omega arith)
five (a ∷ b ∷ c ∷ d ∷ e ∷ []) h = refl
five (a ∷ b ∷ c ∷ d ∷ e ∷ f ∷ vs) h = absurd (omega arith)
