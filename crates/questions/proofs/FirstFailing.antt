-- The first number at which a test fails, and what a comparison says by it.
use Rattle.std.proofs.Common.{◌≡◌, ℕ, zero, suc, ◌+◌, ◌^◌, ◌<◌, ◌≤◌, Bool, true, false, cond, sym, refl, ap, ◌∙◌, subst, ⊎_elim, arith, None, Option, Some}
use mathlib.Core.Bool.{beq}
use Rattle.std.proofs.lemmas.Bool.{cases_lt, cases_Bool, cond-true, cond-false}
use Rattle.rules.specs.declared.edge.Edge.{Edge}
use Rattle.graph_model.specs.Graphs.{State}
use Rattle.questions.specs.Comparison.{Compares, agree, first_failing, comparison}

pub none_failing : (p : ℕ → Bool) (k c : ℕ) → ((j : ℕ) → k ≤ j → j < k + c → p j ≡ true) → first_failing p k c ≡ None
unfolding first_failing
none_failing p k zero h = refl
none_failing p k (suc c) h = cond-true (p k) _ _ (h k (omega arith) (omega arith)) ∙ none_failing p (k + 1) c (λ j l m. h j (omega arith) (omega arith))

pub is_failing : (p : ℕ → Bool) (k c m : ℕ) → k ≤ m → m < k + c → p m ≡ false → ((j : ℕ) → k ≤ j → j < m → p j ≡ true) → first_failing p k c ≡ Some m
unfolding first_failing
is_failing p k zero m l h f t = absurd (omega arith)
is_failing p k (suc c) m l h f t =
    ⊎_elim
    (λ (g : k < m). cond-true (p k) _ _ (t k (omega arith) g) ∙ is_failing p (k + 1) c m (omega arith) (omega arith) f (λ j a b. t j (omega arith) b))
    (λ (g : m ≤ k). let e : k ≡ m = omega arith in cond-false (p k) _ _ (ap p e ∙ f) ∙ ap Some e)
    (cases_lt k m)

beq_true : (a b : Bool) → beq a b ≡ true → a ≡ b
beq_true true true e = refl
beq_true true false e = cc
beq_true false true e = cc
beq_true false false e = refl

beq_false : (a b : Bool) → beq a b ≡ false → a ≡ b → ⊥
beq_false true true e h = let z : ◌≡◌ {A = ℕ} 0 1 = cc in omega arith
beq_false true false e h = let z : ◌≡◌ {A = ℕ} 0 1 = cc in omega arith
beq_false false true e h = let z : ◌≡◌ {A = ℕ} 0 1 = cc in omega arith
beq_false false false e h = let z : ◌≡◌ {A = ℕ} 0 1 = cc in omega arith

-- what the search says of any test
Found : (ℕ → Bool) → ℕ → ℕ → Option ℕ → Type 0
Found p k c None = (j : ℕ) → k ≤ j → j < k + c → p j ≡ true
Found p k c (Some m) = (m < k + c) × (p m ≡ false) × ((j : ℕ) → k ≤ j → j < m → p j ≡ true)

found_more : (p : ℕ → Bool) (k c : ℕ) (r : Option ℕ) → p k ≡ true → Found p (k + 1) c r → Found p k (suc c) r
unfolding Found
found_more p k c None e h = λ j l m. ⊎_elim (λ (a : k < j). h j (omega arith) (omega arith)) (λ (a : j ≤ k). let s : j ≡ k = omega arith in ap p s ∙ e) (cases_lt k j)
found_more p k c (Some m) e h =
    (omega (arith, h.0), h.1, λ j l b. ⊎_elim (λ (a : k < j). h.2 j (omega arith) b) (λ (a : j ≤ k). let s : j ≡ k = omega arith in ap p s ∙ e) (cases_lt k j))

found : (p : ℕ → Bool) (k c : ℕ) → Found p k c (first_failing p k c)
unfolding Found first_failing
found p k zero = λ j l m. absurd (omega arith)
found p k (suc c) =
    ⊎_elim
    (λ (e : p k ≡ true). subst (λ b. Found p k (suc c) (cond b (first_failing p (k + 1) c) (Some k))) (sym e) (found_more p k c (first_failing p (k + 1) c) e (found p (k + 1) c)))
    (λ (e : p k ≡ false). subst (λ b. Found p k (suc c) (cond b (first_failing p (k + 1) c) (Some k))) (sym e) (omega arith, e, λ j l b. absurd (omega arith)))
    (cases_Bool (p k))

compares : (s : State) (x y : Edge) (r : Option ℕ) → Found (agree s x y) 0 (2 ^ s.inputs) r → Compares s x y r
unfolding Found
compares s x y None h = λ k l. beq_true _ _ (h k (omega arith) (omega arith))
compares s x y (Some m) h = (omega (arith, h.0), beq_false _ _ h.1, λ j l. beq_true _ _ (h.2 j (omega arith) l))

-- the search by number answers as the relation says
pub comparison_compares : (s : State) (x y : Edge) (r : Option ℕ) → r ≡ comparison s x y → Compares s x y r
comparison_compares s x y r e = let P : Option ℕ → Type 0 = Compares s x y in subst P (sym e) (compares s x y (comparison s x y) (found (agree s x y) 0 (2 ^ s.inputs)))
