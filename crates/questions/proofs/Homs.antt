-- What edges mean is carried over by homomorphisms, so that each row of a value is what an edge means in bits.
use Rattle.std.proofs.Common.{◌≡◌, ℕ, zero, suc, ◌<◌, Bool, true, false, cond, List, [], ◌∷◌, ◌++◌, map, get_or, sym, refl, ap, ◌∙◌, ap₂}
use mathlib.Core.List.{map-append, map-map}
use Rattle.std.specs.List.{range_with_len}
use Rattle.values.specs.Algebra.{BooleanAlgebra}
use Rattle.values.specs.Bit.{bit_algebra}
use Rattle.values.specs.Homs.{Hom}
use Rattle.values.specs.Rows.{Rows}
use Rattle.rules.specs.declared.edge.Edge.{Edge}
use Rattle.rules.specs.declared.pair.Pair.{Pair}
use Rattle.rules.specs.Edges.{node, complemented}
use Rattle.rules.specs.Meaning.{means, pair_means}
use Rattle.graph_model.specs.Graphs.{State, at, grown, roots, node_values, meaning}

map_getD : {V W : Type 0} (f : V → W) (vs : List V) (i : ℕ) (d : V) → f (get_or vs i d) ≡ get_or (map f vs) i (f d)
map_getD f [] i d = refl
map_getD f (v ∷ vs) zero d = refl
map_getD f (v ∷ vs) (suc i) d = map_getD f vs i d

module _ {V W : Type 0} (k : BooleanAlgebra V) {m : BooleanAlgebra W} {f : V → W} (h : Hom k m f) where
  at_hom : (vs : List V) (n : ℕ) → f (at k vs n) ≡ at m (map f vs) n
  unfolding at
  at_hom vs n = map_getD f vs n k.bottom ∙ ap (get_or (map f vs) n) h.at_bottom

  cond_hom : (b : Bool) (v : V) (w : W) → f v ≡ w → f (cond b (k.not v) v) ≡ cond b (m.not w) w
  cond_hom true v w e = h.at_not v ∙ ap m.not e
  cond_hom false v w e = e

  pub means_hom : (vs : List V) (e : Edge) → f (means k (at k vs) e) ≡ means m (at m (map f vs)) e
  unfolding means
  means_hom vs e = cond_hom (complemented e) _ _ (at_hom vs (node e))

  pub pair_hom : (vs : List V) (p : Pair) → f (pair_means k (at k vs) p) ≡ pair_means m (at m (map f vs)) p
  pair_hom vs p = h.at_and _ _ ∙ ap₂ m.and (means_hom vs p.larger) (means_hom vs p.smaller)

  pub grown_hom : (vs : List V) (ps : List Pair) → map f (grown k vs ps) ≡ grown m (map f vs) ps
  unfolding grown
  grown_hom vs [] = refl
  grown_hom vs (p ∷ ps) =
      let v : V = pair_means k (at k vs) p in
      grown_hom (vs ++ (v ∷ [])) ps
      ∙ ap (λ ws. grown m ws ps) (map-append f vs (v ∷ []) ∙ ap (λ w. map f vs ++ (w ∷ [])) (pair_hom vs p))

  pub roots_hom : (ρ : ℕ → V) (n : ℕ) → map f (roots k ρ n) ≡ roots m (λ j. f (ρ j)) n
  roots_hom ρ n = ap₂ (λ z zs. z ∷ zs) h.at_bottom (map-map f ρ (range_with_len 1 n))

  -- the values of the nodes, carried over
  pub node_values_hom : (ρ : ℕ → V) (s : State) → map f (node_values k ρ s) ≡ node_values m (λ j. f (ρ j)) s
  node_values_hom ρ s = grown_hom (roots k ρ s.inputs) s.pairs ∙ ap (λ vs. grown m vs s.pairs) (roots_hom ρ s.inputs)

  -- an edge's meaning, carried over
  pub meaning_hom : (ρ : ℕ → V) (s : State) (e : Edge) → f (meaning k ρ s e) ≡ meaning m (λ j. f (ρ j)) s e
  meaning_hom ρ s e = means_hom (node_values k ρ s) e ∙ ap (λ vs. means m (at m vs) e) (node_values_hom ρ s)

-- rows of bits, where row i is for the assignment σ i
module _ {V : Type 0} {k : BooleanAlgebra V} {w : ℕ} (r : Rows k w) (σ : ℕ → ℕ → Bool) where
  -- input j under all of them
  abbrev pub row_column : ℕ → V
  row_column j = r.make (λ i. σ i j)

  -- row i of what an edge means is what it means under the assignment σ i
  pub row-meaning : (s : State) (e : Edge) (i : ℕ) → i < w → r.row i (meaning k row_column s e) ≡ meaning bit_algebra (σ i) s e
  row-meaning s e i h = meaning_hom k (r.row_hom i h) row_column s e ∙ ap (λ ρ. meaning bit_algebra ρ s e) (λ t j. r.row_make (λ n. σ n j) i h t)

  pub meaning_rows : (s : State) (e : Edge) → meaning k row_column s e ≡ r.make (λ i. meaning bit_algebra (σ i) s e)
  meaning_rows s e = r.same _ _ (λ i h. row-meaning s e i h ∙ sym (r.row_make (λ n. meaning bit_algebra (σ n) s e) i h))
