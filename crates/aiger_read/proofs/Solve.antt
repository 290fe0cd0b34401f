-- A good file gives each variable a value.
use Rattle.std.proofs.Common.{◌≡◌, ℕ, zero, suc, ◌+◌, ◌/◌, ◌%◌, ◌<◌, cond, eqb, List, [], ◌∷◌, ◌++◌, length, get_or, sym, refl, ap, ◌∙◌, subst, add-zero, arith}
use Rattle.std.proofs.lemmas.Bool.{cond-true, cond-false, eq-eqb, ne_eqb}
use Rattle.values.specs.Algebra.{BooleanAlgebra}
use Rattle.aiger_lines.specs.declared.fields.Header.{Header}
use Rattle.aiger_check.specs.Circuits.{Item, input, output, gate, Defined, Begins, nothing}
use Rattle.aiger_read.specs.Meaning.{lit, Agrees, Satisfies}
use Rattle.aiger_check.proofs.Goods.{Goods, goods_from}
use Rattle.aiger_read.proofs.Run.{defined_old, defined_last}

update : {V : Type 0} → (ℕ → V) → ℕ → V → ℕ → V
update w x b y = cond (eqb y x) b (w y)

update_same : {V : Type 0} (w : ℕ → V) (x : ℕ) (b : V) → update w x b x ≡ b
unfolding update
update_same w x b = cond-true (eqb x x) b (w x) (eq-eqb x x refl)

update_other : {V : Type 0} (w : ℕ → V) (x : ℕ) (b : V) (y : ℕ) → (x ≡ y → ⊥) → update w x b y ≡ w y
unfolding update
update_other w x b y d = cond-false (eqb y x) b (w y) (ne_eqb y x (λ e. d (sym e)))

module _ {V : Type 0} (k : BooleanAlgebra V) (h : Header) (ρ : ℕ → V) where
  solve : ℕ → List Item → (ℕ → V) → ℕ → V
  solve n [] w = w
  solve n (input v ∷ is) w = solve (n + 1) is (update w (v / 2) (ρ (n + 1)))
  solve n (output v ∷ is) w = solve (n + 1) is w
  solve n (gate a b c ∷ is) w = solve (n + 1) is (update w (a / 2) (k.and (lit k w b) (lit k w c)))

  keep : (is before : List Item) (n : ℕ) (w : ℕ → V) (x : ℕ) → Goods h n before is → Defined before x → solve n is w x ≡ w x
  unfolding solve
  keep [] before n w x g d = refl
  keep (input v ∷ is) before n w x g d = keep is (before ++ (input v ∷ [])) (n + 1) (update w (v / 2) (ρ (n + 1))) x g.2 (defined_old before (input v) x d) ∙ update_other w (v / 2) (ρ (n + 1)) x (λ e. g.0.fresh (subst (Defined before) (sym e) d))
  keep (output v ∷ is) before n w x g d = keep is (before ++ (output v ∷ [])) (n + 1) w x g.2 (defined_old before (output v) x d)
  keep (gate a b c ∷ is) before n w x g d = keep is (before ++ (gate a b c ∷ [])) (n + 1) (update w (a / 2) (k.and (lit k w b) (lit k w c))) x g.2 (defined_old before (gate a b c) x d) ∙ update_other w (a / 2) (k.and (lit k w b) (lit k w c)) x (λ e. g.0.fresh (subst (Defined before) (sym e) d))

  same_lit : (w u : ℕ → V) (l : ℕ) → w (l / 2) ≡ u (l / 2) → lit k w l ≡ lit k u l
  same_lit w u l e = ap (λ b. cond (eqb (l % 2) 0) b (k.not b)) e

  each : (is before : List Item) (n : ℕ) (w : ℕ → V) (j : ℕ) → Goods h n before is → j < length is → Agrees k ρ (solve n is w) (n + j) (get_or is j nothing)
  unfolding solve
  each [] before n w j g l = absurd (omega arith)
  each (input v ∷ is) before n w zero g l =
      keep is (before ++ (input v ∷ [])) (n + 1) (update w (v / 2) (ρ (n + 1))) (v / 2) g.2 (defined_last before (input v) (v / 2) refl) ∙ update_same w (v / 2) (ρ (n + 1)) ∙ ap (λ j. ρ (j + 1)) (sym (add-zero n))
  each (output v ∷ is) before n w zero g l = tt
  each (gate a b c ∷ is) before n w zero g l =
      let at_b = same_lit w (solve n (gate a b c ∷ is) w) b (sym (keep (gate a b c ∷ is) before n w (b / 2) g g.0.known.0)) in
      let at_c = same_lit w (solve n (gate a b c ∷ is) w) c (sym (keep (gate a b c ∷ is) before n w (c / 2) g g.0.known.1)) in
      keep is (before ++ (gate a b c ∷ [])) (n + 1) (update w (a / 2) (k.and (lit k w b) (lit k w c))) (a / 2) g.2 (defined_last before (gate a b c) (a / 2) refl)
      ∙ update_same w (a / 2) (k.and (lit k w b) (lit k w c))
      ∙ (λ i. k.and (at_b i) (at_c i))
  each (input v ∷ is) before n w (suc j) g l = let e : n + 1 + j ≡ n + suc j = omega arith in subst (λ i. Agrees k ρ (solve (n + 1) is (update w (v / 2) (ρ (n + 1)))) i (get_or is j nothing)) e (each is (before ++ (input v ∷ [])) (n + 1) (update w (v / 2) (ρ (n + 1))) j g.2 (omega arith))
  each (output v ∷ is) before n w (suc j) g l = let e : n + 1 + j ≡ n + suc j = omega arith in subst (λ i. Agrees k ρ (solve (n + 1) is w) i (get_or is j nothing)) e (each is (before ++ (output v ∷ [])) (n + 1) w j g.2 (omega arith))
  each (gate a b c ∷ is) before n w (suc j) g l = let e : n + 1 + j ≡ n + suc j = omega arith in subst (λ i. Agrees k ρ (solve (n + 1) is (update w (a / 2) (k.and (lit k w b) (lit k w c)))) i (get_or is j nothing)) e (each is (before ++ (gate a b c ∷ [])) (n + 1) (update w (a / 2) (k.and (lit k w b) (lit k w c))) j g.2 (omega arith))

-- whatever its inputs are
pub solvable : {V : Type 0} (k : BooleanAlgebra V) (h : Header) (ls : List (List ℕ)) (is : List Item) → Begins h ls is → (ρ : ℕ → V) → (w : ℕ → V) × Satisfies k is ρ w
solvable k h ls is b ρ =
    let g = goods_from h ls is b is [] 0 refl refl in (
      solve k h ρ 0 is (λ x. k.bottom),
      record {
        constant = keep k h ρ is [] 0 (λ x. k.bottom) 0 g refl;
        each = λ j l. (let e : 0 + j ≡ j = omega arith in subst (λ n. Agrees k ρ (solve k h ρ 0 is (λ x. k.bottom)) n (get_or is j nothing)) e (each k h ρ is [] 0 (λ x. k.bottom) j g l));
      },
    )
