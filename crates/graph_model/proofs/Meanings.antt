-- What edges mean: the trivial cases, and lists of node values that grow.
use Rattle.std.proofs.Common.{◌≡◌, ℕ, ◌+◌, ◌%◌, ◌<◌, cond, eqb, List, [], ◌∷◌, ◌++◌, length, Some, None, Option, sym, refl, ap, ◌∙◌, arith}
use Rattle.std.proofs.lemmas.List.{get_or_append_left, get_or_push, length_push}
use Rattle.std.proofs.lemmas.Bool.{cond-true, cond-false, eq-eqb, ne_eqb, eqb-true, eqb-false, cond_both}
use Rattle.std.proofs.lemmas.Bool.Decides.{nat_tests}
use Rattle.values.specs.Algebra.{BooleanAlgebra}
use Rattle.values.proofs.Derived.{true_and, idem, and-bottom}
use Rattle.rules.specs.declared.edge.Edge.{Edge}
use Rattle.rules.specs.declared.pair.Pair.{Pair}
use Rattle.rules.specs.Edges.{edge, node, complement, complemented, same}
use Rattle.rules.specs.Meaning.{means, pair_means}
use Rattle.rules.proofs.Meanings.{means-complement}
use Rattle.graph_model.specs.Graphs.{at, grown}
use Rattle.graph_model.specs.Requests.{trivial}
use Rattle.graph_model.specs.Settling.{Trivial, false_left, false_right, true_left, true_right, twice, against, unlike}

-- the function answers as the relation says
pub trivial_view : (x y : Edge) → Trivial x y (trivial x y)
unfolding trivial
trivial_view x y =
    let P : Option Edge → Type 0 = Trivial x y in
    cond_both (eqb x.0 0) _ _ P (λ h. false_left (eqb-true _ _ h)) (λ a.
    cond_both (eqb y.0 0) _ _ P (λ h. false_right (eqb-true _ _ h)) (λ b.
    cond_both (eqb x.0 1) _ _ P (λ h. true_left (eqb-true _ _ h)) (λ c.
    cond_both (eqb y.0 1) _ _ P (λ h. true_right (eqb-true _ _ h)) (λ d.
    cond_both (same x y) _ _ P (λ h. twice (eqb-true _ _ h)) (λ f.
    cond_both (same x (complement y)) _ _ P (λ h. against (eqb-true _ _ h)) (λ g.
    unlike (record {
      x_not_false = eqb-false _ _ a;
      y_not_false = eqb-false _ _ b;
      x_not_true = eqb-false _ _ c;
      y_not_true = eqb-false _ _ d;
      not_same = eqb-false _ _ f;
      not_against = eqb-false _ _ g;
    })))))))

-- and the relation only what the function answers
pub trivial_is : {x y : Edge} {o : Option Edge} → Trivial x y o → trivial x y ≡ o
unfolding trivial
trivial_is (false_left h) = grind (arith, nat_tests)
trivial_is (false_right h) = grind (arith, nat_tests)
trivial_is (true_left h) = grind (arith, nat_tests)
trivial_is (true_right h) = grind (arith, nat_tests)
trivial_is (twice h) = grind (arith, nat_tests)
trivial_is (against h) = grind (arith, nat_tests)
trivial_is (unlike u) = grind (arith, nat_tests, u.x_not_false, u.y_not_false, u.x_not_true, u.y_not_true, u.not_same, u.not_against)

module _ {V : Type 0} (k : BooleanAlgebra V) where
  pub means_plain : (val : ℕ → V) (e : Edge) → e.0 % 2 ≡ 0 → means k val e ≡ val (node e)
  unfolding means
  means_plain val e h = cond-false (complemented e) _ _ (ne_eqb _ _ (omega arith))

  pub means_odd : (val : ℕ → V) (e : Edge) → e.0 % 2 ≡ 1 → means k val e ≡ k.not (val (node e))
  unfolding means
  means_odd val e h = cond-true (complemented e) _ _ (eq-eqb _ _ h)

  -- an edge's meaning asks only for its node's value
  pub means_at : (val vol : ℕ → V) (e : Edge) → val (node e) ≡ vol (node e) → means k val e ≡ means k vol e
  unfolding means
  means_at val vol e h = ap (λ v. cond (complemented e) (k.not v) v) h

  pub length-grown : (vs : List V) (ps : List Pair) → length (grown k vs ps) ≡ length vs + length ps
  unfolding grown
  length-grown vs [] = omega arith
  length-grown vs (p ∷ ps) = length-grown (vs ++ (pair_means k (at k vs) p ∷ [])) ps ∙ simp length_push (omega arith)

  pub grown_append : (vs : List V) (ps qs : List Pair) → grown k vs (ps ++ qs) ≡ grown k (grown k vs ps) qs
  unfolding grown
  grown_append vs [] qs = refl
  grown_append vs (p ∷ ps) qs = grown_append (vs ++ (pair_means k (at k vs) p ∷ [])) ps qs

  -- what is there already keeps its value
  pub grown_keeps : (vs : List V) (ps : List Pair) (n : ℕ) → n < length vs → at k (grown k vs ps) n ≡ at k vs n
  unfolding grown at
  grown_keeps vs [] n h = refl
  grown_keeps vs (p ∷ ps) n h =
      let v : V = pair_means k (at k vs) p in
      grown_keeps (vs ++ (v ∷ [])) ps n (simp length_push (omega arith)) ∙ get_or_append_left vs (v ∷ []) k.bottom n h

  -- the node that the next pair makes has the AND of its edges
  pub grown_next : (vs : List V) (p : Pair) (ps : List Pair) → at k (grown k vs (p ∷ ps)) (length vs) ≡ pair_means k (at k vs) p
  unfolding grown at
  grown_next vs p ps =
      let v : V = pair_means k (at k vs) p in
      grown_keeps (vs ++ (v ∷ [])) ps (length vs) (simp length_push (omega arith)) ∙ get_or_push vs v k.bottom (length vs) refl

  pub pair_keeps : (vs : List V) (ps : List Pair) (p : Pair) → node p.larger < length vs → node p.smaller < length vs → pair_means k (at k (grown k vs ps)) p ≡ pair_means k (at k vs) p
  pair_keeps vs ps p h l =
      ap (λ a. k.and a (means k (at k (grown k vs ps)) p.smaller)) (means_at (at k (grown k vs ps)) (at k vs) p.larger (grown_keeps vs ps _ h))
      ∙ ap (k.and (means k (at k vs) p.larger)) (means_at (at k (grown k vs ps)) (at k vs) p.smaller (grown_keeps vs ps _ l))

  module _ (val : ℕ → V) (zeroth : val 0 ≡ k.bottom) where
    pub means_false : (e : Edge) → e.0 ≡ 0 → means k val e ≡ k.bottom
    means_false e h = let n : node e ≡ 0 = omega arith in means_plain val e (omega arith) ∙ ap val n ∙ zeroth

    pub means_true : (e : Edge) → e.0 ≡ 1 → means k val e ≡ k.not k.bottom
    means_true e h = let n : node e ≡ 0 = omega arith in means_odd val e (omega arith) ∙ ap (λ m. k.not (val m)) n ∙ ap k.not zeroth

    bottom_and_at : (a b : V) → a ≡ k.bottom → k.and a b ≡ k.bottom
    bottom_and_at a b h = ap (λ z. k.and z b) h ∙ k.comm _ _ ∙ and-bottom k b

    and_bottom_at : (a b : V) → b ≡ k.bottom → k.and a b ≡ k.bottom
    and_bottom_at a b h = ap (k.and a) h ∙ and-bottom k a

    -- what a trivial case answers means the AND
    abbrev TrivialMeans : Edge → Edge → Option Edge → Type 0
    TrivialMeans x y None = Unit {0}
    TrivialMeans x y (Some e) = means k val e ≡ k.and (means k val x) (means k val y)

    pub trivial_means : {x y : Edge} {o : Option Edge} → Trivial x y o → TrivialMeans x y o
    trivial_means {x} {y} (false_left h) = means_false (edge 0) refl ∙ sym (bottom_and_at _ _ (means_false x h))
    trivial_means {x} {y} (false_right h) = means_false (edge 0) refl ∙ sym (and_bottom_at _ _ (means_false y h))
    trivial_means {x} {y} (true_left h) = sym (ap (λ z. k.and z (means k val y)) (means_true x h) ∙ true_and k _)
    trivial_means {x} {y} (true_right h) = sym (ap (k.and (means k val x)) (means_true y h) ∙ k.and_true _)
    trivial_means {x} {y} (twice h) = sym (ap (λ (n : ℕ). k.and (means k val x) (means k val (edge n))) (sym h) ∙ idem k _)
    trivial_means {x} {y} (against h) =
        let f : means k val x ≡ k.not (means k val y) = ap (λ (n : ℕ). means k val (edge n)) h ∙ means-complement k val y in
        means_false (edge 0) refl ∙ sym (ap (λ z. k.and z (means k val y)) f ∙ k.comm _ _ ∙ k.and_not _)
    trivial_means (unlike h) = tt
