-- The first position of a pair in a list.
use Rattle.std.proofs.Common.{◌≡◌, ℕ, zero, suc, ◌+◌, ◌<◌, Bool, true, false, cond, List, [], ◌∷◌, ◌++◌, length, Some, None, Option, sym, refl, ap, ◌∙◌, subst, arith}
use Rattle.std.proofs.lemmas.Bool.{cond_both, and_parts, eqb-true, both_ways}
use Rattle.std.proofs.lemmas.Bool.Decides.{nat_tests}
use Rattle.std.specs.List.{slice_get}
use Rattle.std.specs.Option.{option_or}
use Rattle.rules.specs.declared.pair.Pair.{Pair}
use Rattle.rules.proofs.Edged.{pair_path}
use Rattle.rules.specs.Edges.{edge}
use Rattle.stores.specs.Stored.{same_pair, position, position_from, Found, First}

pub or_other_none : (x : Option ℕ) → option_or x None ≡ x
or_other_none None = refl
or_other_none (Some x) = refl

pub or_other_hit : (x : Option ℕ) (b : Bool) (k : ℕ) (y : Option ℕ) → option_or x (cond b (Some k) y) ≡ option_or (option_or x (cond b (Some k) None)) y
or_other_hit None true k y = refl
or_other_hit None false k y = refl
or_other_hit (Some x) b k y = refl

position_from_push : (k : ℕ) (p : Pair) (qs : List Pair) (q : Pair) → position_from k p (qs ++ q ∷ []) ≡ option_or (position_from k p qs) (cond (same_pair q p) (Some (k + length qs)) None)
position_from_push k p [] q =
    let e : k ≡ k + 0 = omega arith in
    ap (λ (n : ℕ). cond (same_pair q p) (Some n) None) e
position_from_push k p (x ∷ qs) q =
    let e : k + 1 + length qs ≡ k + length (x ∷ qs) = omega arith in
    let ih : position_from (k + 1) p (qs ++ q ∷ []) ≡ option_or (position_from (k + 1) p qs) (cond (same_pair q p) (Some (k + length (x ∷ qs))) None) =
    position_from_push (k + 1) p qs q ∙ ap (λ (n : ℕ). option_or (position_from (k + 1) p qs) (cond (same_pair q p) (Some n) None)) e in
    elim (same_pair x p) as (λ b. cond b (Some k) (position_from (k + 1) p (qs ++ q ∷ [])) ≡ option_or (cond b (Some k) (position_from (k + 1) p qs)) (cond (same_pair q p) (Some (k + length (x ∷ qs))) None))
    [ true ↦ refl | false ↦ ih ]

pub position_push : (p : Pair) (qs : List Pair) (q : Pair) (n : ℕ) → length qs ≡ n → position p (qs ++ q ∷ []) ≡ option_or (position p qs) (cond (same_pair q p) (Some n) None)
position_push p qs q n h =
    let e : 0 + length qs ≡ n = omega arith in
    position_from_push 0 p qs q ∙ ap (λ (k : ℕ). option_or (position p qs) (cond (same_pair q p) (Some k) None)) e

pub same_pair_true : (q p : Pair) → same_pair q p ≡ true → q ≡ p
same_pair_true q p h =
    let a = and_parts _ _ h in
    pair_path q p (ap edge (eqb-true q.larger.0 p.larger.0 a.0)) (ap edge (eqb-true q.smaller.0 p.smaller.0 a.1))

pub same_pair_refl : (p : Pair) → same_pair p p ≡ true
same_pair_refl p = grind (arith, nat_tests)

-- the first position of p, where the list begins at position k
abbrev FirstFrom : ℕ → List Pair → Pair → Option ℕ → Type 0
FirstFrom k ps p (Some i) = (n : ℕ) × (i ≡ k + n) × (slice_get ps n ≡ Some p) × ((j : ℕ) → j < n → slice_get ps j ≡ Some p → ⊥)
FirstFrom k ps p None = (j : ℕ) → slice_get ps j ≡ Some p → ⊥

position_from_first : (k : ℕ) (ps : List Pair) (p : Pair) → FirstFrom k ps p (position_from k p ps)
position_from_first k [] p = λ i h. let z : ◌≡◌ {A = ℕ} 0 1 = cc in omega arith
position_from_first k (q ∷ qs) p =
    let P : Option ℕ → Type 0 = FirstFrom k (q ∷ qs) p in
    cond_both (same_pair q p) _ _ P (λ h. (0, omega arith, ap Some (same_pair_true q p h), λ j l e. omega arith)) (λ h. go h (position_from (k + 1) p qs) (position_from_first (k + 1) qs p))
  where
    differs : same_pair q p ≡ false → slice_get (q ∷ qs) 0 ≡ Some p → ⊥
    differs h e =
        let r : q ≡ p = cc in
        let P : Pair → Type 0 = λ x. same_pair x p ≡ false in
        both_ways (same_pair p p) (subst P r h) (same_pair_refl p)

    none : same_pair q p ≡ false → ((i : ℕ) → slice_get qs i ≡ Some p → ⊥) → (i : ℕ) → slice_get (q ∷ qs) i ≡ Some p → ⊥
    none h f zero e = differs h e
    none h f (suc i) e = f i e

    before : same_pair q p ≡ false → (n : ℕ) → ((j : ℕ) → j < n → slice_get qs j ≡ Some p → ⊥) → (j : ℕ) → j < suc n → slice_get (q ∷ qs) j ≡ Some p → ⊥
    before h n f zero l e = differs h e
    before h n f (suc j) l e = f j (omega arith) e

    go : same_pair q p ≡ false → (o : Option ℕ) → FirstFrom (k + 1) qs p o → FirstFrom k (q ∷ qs) p o
    go h (Some i) f = (suc f.0, omega (arith, f.1), f.2, before h f.0 f.3)
    go h None f = none h f

pub position_first : (ps : List Pair) (p : Pair) (o : Option ℕ) → o ≡ position p ps → First ps p o
position_first ps p o e = let P : Option ℕ → Type 0 = First ps p in subst P (sym e) (go (position p ps) (position_from_first 0 ps p))
  where
    go : (o : Option ℕ) → FirstFrom 0 ps p o → First ps p o
    go (Some i) f =
        let e : f.0 ≡ i = omega (arith, f.1) in
        let P : ℕ → Type 0 = λ n. First ps p (Some n) in
        subst P e (f.2, f.3)
    go None f = f

pub position_found : (ps : List Pair) (p : Pair) → Found ps p (position p ps)
position_found ps p = go (position p ps) (position_first ps p (position p ps) refl)
  where
    go : (o : Option ℕ) → First ps p o → Found ps p o
    go (Some i) f = f.0
    go None f = f
