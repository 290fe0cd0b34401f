-- A stored pair, asked for again where those before it are stored, is stored as the next node.
use Rattle.std.proofs.Common.{◌≡◌, ℕ, zero, suc, ◌+◌, ◌*◌, ◌<◌, ◌≤◌, Bool, true, List, [], ◌∷◌, ◌++◌, length, take, drop, Some, Ok, Result, sym, refl, ap, ◌∙◌, arith}
use Rattle.std.proofs.lemmas.List.{take-append-drop, length-take-le}
use Rattle.std.specs.List.{slice_get}
use Rattle.rules.specs.declared.edge.Edge.{Edge}
use Rattle.rules.specs.declared.pair.Pair.{Pair}
use Rattle.rules.specs.declared.window.Window.{Window}
use Rattle.rules.specs.declared.window.Reply.{Reply}
use Rattle.rules.specs.Edges.{plain}
use Rattle.rules.specs.Pairs.{pair_of}
use Rattle.rules.specs.Lawful.{Lawful}
use Rattle.rules.proofs.Edged.{pair_of_own}
use Rattle.graph_model.specs.declared.refusal.Refusal.{Refusal}
use Rattle.graph_model.specs.declared.settled.Settled.TheVariants.{Answered, ToStore}
use Rattle.graph_model.specs.Graphs.{State, Inside}
use Rattle.graph_model.specs.Requests.{stored, window, and_of}
use Rattle.graph_model.specs.Settling.{Settles, to_store, Ands, no_node, answered, found, added, full}
use Rattle.graph_model.specs.WellFormed.{Well, Extends}
use Rattle.graph_model.proofs.Requests.{and_ands}
use Rattle.graph_model.proofs.Settling.{settles_one, nth_within, window_extends}

-- a graph with the first k pairs of s, and room of its own
abbrev pub first : State → ℕ → ℕ → ℕ → State
first s limit max_edge k = record { inputs = s.inputs; pairs = take k s.pairs; limit = limit; max_edge = max_edge }

nth_take : {X : Type 0} (xs : List X) (k i : ℕ) (x : X) → slice_get (take k xs) i ≡ Some x → slice_get xs i ≡ Some x
nth_take xs zero i x e = absurd (let z : ◌≡◌ {A = ℕ} 0 1 = cc in omega arith)
nth_take [] (suc k) i x e = e
nth_take (y ∷ ys) (suc k) zero x e = e
nth_take (y ∷ ys) (suc k) (suc i) x e = nth_take ys k i x e

take_nth : {X : Type 0} (xs : List X) (k : ℕ) (x : X) → slice_get xs k ≡ Some x → take k xs ++ (x ∷ []) ≡ take (suc k) xs
take_nth [] k x e = absurd (let z : ◌≡◌ {A = ℕ} 0 1 = cc in omega arith)
take_nth (y ∷ ys) zero x e = let f : x ≡ y = cc in ap (λ z. z ∷ []) f
take_nth (y ∷ ys) (suc k) x e = ap (λ zs. y ∷ zs) (take_nth ys k x e)

module _ (b : Window → Reply) (lawful : Lawful b) (s : State) (well : Well b s) (limit max_edge : ℕ) (roomy : 2 * (limit + s.inputs) + 1 ≤ max_edge) where
  -- the whole graph, with that room
  abbrev whole : State
  whole = record { inputs = s.inputs; pairs = s.pairs; limit = limit; max_edge = max_edge }

  extends : (k : ℕ) → Extends (first s limit max_edge k) whole
  extends k = record { inputs = refl; limit = refl; max_edge = refl; more = drop k s.pairs; pairs = sym (take-append-drop k s.pairs) }

  same_window : (k : ℕ) (p : Pair) → Inside (first s limit max_edge k) p.larger → Inside (first s limit max_edge k) p.smaller → window (first s limit max_edge k) p ≡ window s p
  unfolding window stored
  same_window k p x y = sym (window_extends (first s limit max_edge k) whole p (extends k) x y)

  within : (k i : ℕ) (p : Pair) → slice_get (take k s.pairs) i ≡ Some p → Inside (first s limit max_edge k) p.larger × Inside (first s limit max_edge k) p.smaller
  within k i p h =
      let l = nth_within (take k s.pairs) i p h in
      let e = well.earlier i p (nth_take s.pairs k i p h) in
      (omega (arith, e.0), omega (arith, e.1))

  pub first_well : (k : ℕ) → Well b (first s limit max_edge k)
  first_well k = record {
    roomy = roomy;
    earlier = λ i p h. well.earlier i p (nth_take s.pairs k i p h);
    once = λ i j p h l. well.once i j p (nth_take s.pairs k i p h) (nth_take s.pairs k j p l);
    unlike = λ i p h. well.unlike i p (nth_take s.pairs k i p h);
    irreducible = λ i p h. ap b (same_window k p (within k i p h).0 (within k i p h).1) ∙ well.irreducible i p (nth_take s.pairs k i p h);
  }

  module _ (k : ℕ) (p : Pair) (here : slice_get s.pairs k ≡ Some p) (room : k < limit) where
    size : length (take k s.pairs) ≡ k
    size = length-take-le k s.pairs (omega (arith, nth_within s.pairs k p here))

    x_inside : Inside (first s limit max_edge k) p.larger
    x_inside = omega (arith, (well.earlier k p here).0, size)

    y_inside : Inside (first s limit max_edge k) p.smaller
    y_inside = omega (arith, (well.earlier k p here).1, size)

    settles : Settles b (first s limit max_edge k) p.larger p.smaller (ToStore (pair_of p.larger p.smaller))
    settles = to_store (well.unlike k p here) (ap (λ q. b (window (first s limit max_edge k) q)) (pair_of_own p) ∙ ap b (same_window k p x_inside y_inside) ∙ well.irreducible k p here)

    to_pair : (q : Pair) → Settles b (first s limit max_edge k) p.larger p.smaller (ToStore q) → q ≡ p
    to_pair q t = let e : ToStore q ≡ ToStore (pair_of p.larger p.smaller) = settles_one (ToStore q) (ToStore (pair_of p.larger p.smaller)) t settles in (let f : q ≡ pair_of p.larger p.smaller = cc in f ∙ pair_of_own p)

    -- the answer, and the graph after it
    Next : Result (Edge × Bool) Refusal → State → Type 0
    Next a t = (a ≡ Ok (plain (s.inputs + 1 + k), true)) × (t ≡ first s limit max_edge (k + 1))

    next : (a : Result (Edge × Bool) Refusal) (t : State) → Ands b (first s limit max_edge k) p.larger p.smaller a t → Next a t
    unfolding Next
    next a t (no_node h) = absurd (h x_inside y_inside)
    next a t (answered {e} x y g) =
        absurd (let f : Answered e ≡ ToStore (pair_of p.larger p.smaller) = settles_one (Answered e) (ToStore (pair_of p.larger p.smaller)) g settles in (let z : ◌≡◌ {A = ℕ} 0 1 = cc in omega arith))
    next a t (found {p = q} i x y g h) =
        let same = to_pair q g in
        let there : slice_get s.pairs i ≡ Some p = nth_take s.pairs k i q h ∙ ap Some same in
        absurd (omega (arith, nth_within (take k s.pairs) i q h, size, well.once i k p there here))
    next a t (added {p = q} x y g out more) = (
      ap (λ n. Ok (plain (s.inputs + 1 + n), true)) size,
      λ i. record { inputs = s.inputs; pairs = (ap (λ z. take k s.pairs ++ (z ∷ [])) (to_pair q g) ∙ take_nth s.pairs k p here ∙ (let e : suc k ≡ k + 1 = omega arith in ap (λ n. take n s.pairs) e)) i; limit = limit; max_edge = max_edge },
    )
    next a t (full {p = q} x y g out l) = absurd (omega (arith, size))

    pub restores : ((and_of b (first s limit max_edge k) p.larger p.smaller).answer ≡ Ok (plain (s.inputs + 1 + k), true)) × ((and_of b (first s limit max_edge k) p.larger p.smaller).after ≡ first s limit max_edge (k + 1))
    unfolding Next
    restores = next (and_of b (first s limit max_edge k) p.larger p.smaller).answer (and_of b (first s limit max_edge k) p.larger p.smaller).after (and_ands b lawful (first s limit max_edge k) (first_well k) p.larger p.smaller)
