-- A list that is filled with the values of the nodes, one after the other.
use Rattle.std.proofs.Common.{◌≡◌, ℕ, suc, ◌+◌, ◌-◌, ◌<◌, ◌≤◌, List, [], ◌∷◌, ◌++◌, map, length, get_or, take, drop, set, sym, refl, ap, ◌∙◌, ap₂, one-add, arith, take-append-drop}
use borrow.Rule.Slice.PartMut.{put_mid}
use Rattle.std.specs.List.{range_with_len}
use Rattle.std.proofs.lemmas.List.{take_more_set, take_at}
use Rattle.std.proofs.lemmas.Slice.{drop-append-drop}
use Rattle.values.specs.Algebra.{BooleanAlgebra}
use Rattle.rules.specs.declared.pair.Pair.{Pair}
use Rattle.rules.specs.Meaning.{pair_means}
use Rattle.graph_model.specs.Graphs.{State, nodes, at, grown, roots, node_values}
use Rattle.questions.specs.Evaluation.{assigned}

-- ---- the constant and the inputs
pub placed : {V : Type 0} (z : V) (xs ins ys : List V) → length ins < length xs → ys ≡ ins → put_mid 1 (1 + length ins - 1) (set xs 0 z) ys ≡ (z ∷ ins) ++ drop (1 + length ins) xs
placed z [] ins ys h e = absurd (omega arith)
placed z (x ∷ xs) ins ys h e =
    let n : 1 + length ins - 1 ≡ length ins = omega arith in
    ap₂ (λ m us. z ∷ (us ++ drop m xs)) n e ∙ ap (λ m. z ∷ (ins ++ drop m (x ∷ xs))) (sym (one-add (length ins)))

listed : {V : Type 0} (f : ℕ → V) (d : V) (a : ℕ) (ws : List V) → ((i : ℕ) → i < length ws → f (a + i) ≡ get_or ws i d) → map f (range_with_len a (length ws)) ≡ ws
listed f d a [] h = refl
listed f d a (w ∷ ws) h =
    let e : a + 0 ≡ a = omega arith in
    ap₂ (λ x xs. x ∷ xs) (ap f (sym e) ∙ h 0 (omega arith)) (listed f d (a + 1) ws (λ i l. let n : a + 1 + i ≡ a + suc i = omega arith in ap f n ∙ h (suc i) (omega arith)))

module _ {V : Type 0} (k : BooleanAlgebra V) where
  pub roots_are : (ws : List V) (n : ℕ) → length ws ≡ n → roots k (assigned k ws) n ≡ k.bottom ∷ ws
  roots_are ws n h =
      ap (λ m. k.bottom ∷ map (assigned k ws) (range_with_len 1 m)) (sym h)
      ∙ ap (λ us. k.bottom ∷ us) (listed (assigned k ws) k.bottom 1 ws (λ i l. let e : 1 + i - 1 ≡ i = omega arith in ap (λ n. get_or ws n k.bottom) e))

  -- ---- the AND nodes: what is left of the pairs decides the whole
  pub ands_more : (vs : List V) (n : ℕ) (ps qs : List Pair) (p : Pair) (v : V) → n < length vs → ps ≡ p ∷ qs → v ≡ pair_means k (at k (take n vs)) p → grown k (take (n + 1) (set vs n v)) qs ≡ grown k (take n vs) ps
  unfolding grown
  ands_more vs n ps qs p v h q e = ap (λ us. grown k us qs) (take_more_set vs n v h ∙ ap (λ x. take n vs ++ (x ∷ [])) e) ∙ sym (ap (grown k (take n vs)) q)

  pub ands_all : (vs old us : List V) (n m : ℕ) (ps : List Pair) → n ≡ m → ps ≡ [] → grown k (take n vs) ps ≡ us → drop m vs ≡ drop m old → vs ≡ us ++ drop m old
  unfolding grown
  ands_all vs old us n m ps h a e d = sym (take-append-drop m vs) ∙ ap₂ ◌++◌ (ap (λ z. take z vs) (sym h) ∙ sym (ap (grown k (take n vs)) a) ∙ e) d

  -- ---- the inputs, then the AND nodes
  pub filled : (s : State) (ins old mid last : List V) → length ins ≡ s.inputs → nodes s ≤ length old
      → mid ≡ (k.bottom ∷ ins) ++ drop (1 + length ins) old
      → last ≡ grown k (take (s.inputs + 1) mid) s.pairs ++ drop (nodes s) mid
      → last ≡ node_values k (assigned k ins) s ++ drop (nodes s) old
  filled s ins old mid last h l em el =
      let front = k.bottom ∷ ins in
      let n : length front ≡ s.inputs + 1 = omega arith in
      let e : 1 + length ins ≡ s.inputs + 1 = omega arith in
      let middle : mid ≡ front ++ drop (s.inputs + 1) old = em ∙ ap (λ z. front ++ drop z old) e in
      let start : take (s.inputs + 1) mid ≡ roots k (assigned k ins) s.inputs =
      ap (take (s.inputs + 1)) middle ∙ take_at front (drop (s.inputs + 1) old) (s.inputs + 1) n ∙ sym (roots_are ins s.inputs h) in
      let rest : drop (nodes s) mid ≡ drop (nodes s) old =
      ap (drop (nodes s)) middle ∙ drop-append-drop (s.inputs + 1) old front (nodes s) (omega arith) n in
      el ∙ ap₂ (λ vs ws. grown k vs s.pairs ++ ws) start rest
