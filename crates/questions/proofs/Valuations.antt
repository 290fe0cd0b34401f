-- Evaluation gives every node its value, and there is only one way to do so.
use Rattle.std.proofs.Common.{◌≡◌, ℕ, zero, suc, ◌+◌, ◌-◌, ◌<◌, ◌≤◌, List, [], ◌∷◌, ◌++◌, length, get_or, drop, Some, sym, refl, ap, ◌∙◌, ap₂, ⊎_elim, arith}
use Rattle.std.specs.List.{slice_get}
use Rattle.std.proofs.lemmas.List.FromFn.{length-map-range_with_len}
use Rattle.std.proofs.lemmas.List.{get_or_append_left}
use Rattle.std.proofs.lemmas.Bool.{cases_lt}
use Rattle.values.specs.Algebra.{BooleanAlgebra}
use Rattle.rules.specs.declared.edge.Edge.{Edge}
use Rattle.rules.specs.declared.window.Window.{Window}
use Rattle.rules.specs.declared.window.Reply.{Reply}
use Rattle.rules.specs.Edges.{node}
use Rattle.rules.specs.Meaning.{means}
use Rattle.rules.specs.Lawful.{Lawful}
use Rattle.graph_model.specs.Graphs.{State, nodes, at, roots, node_values}
use Rattle.graph_model.specs.WellFormed.{Well}
use Rattle.graph_model.proofs.Meanings.{means_at, grown_keeps}
use Rattle.graph_model.proofs.Settling.{nth_within}
use Rattle.graph_model.proofs.Requests.{values_length, zeroth, node_value}
use Rattle.questions.specs.Evaluation.{assigned}
use Rattle.questions.specs.Valuations.{Valuation, OneValuation}
use Rattle.questions.proofs.Filled.{roots_are}

nth_some : {X : Type 0} (xs : List X) (i : ℕ) → i < length xs → (x : X) × (slice_get xs i ≡ Some x)
nth_some [] i h = absurd (omega arith)
nth_some (x ∷ xs) zero h = (x, refl)
nth_some (x ∷ xs) (suc i) h = nth_some xs i (omega arith)

module _ {V : Type 0} (k : BooleanAlgebra V) where
  pub at_left : (us vs : List V) (n : ℕ) → n < length us → at k (us ++ vs) n ≡ at k us n
  unfolding at
  at_left us vs n h = get_or_append_left us vs k.bottom n h

  at_input : (ins : List V) (i : ℕ) → at k (k.bottom ∷ ins) (1 + i) ≡ at k ins i
  unfolding at
  at_input ins i = let e : 1 + i ≡ suc i = omega arith in ap (λ n. get_or (k.bottom ∷ ins) n k.bottom) e

  module _ (b : Window → Reply) (lawful : Lawful b) (s : State) (well : Well b s) (ins old : List V) (given : length ins ≡ s.inputs) where
    values : List V
    values = node_values k (assigned k ins) s

    all : List V
    all = values ++ drop (nodes s) old

    kept : (n : ℕ) → n < nodes s → at k all n ≡ at k values n
    unfolding all values
    kept n h = at_left (node_values k (assigned k ins) s) (drop (nodes s) old) n (rw (values_length k (assigned k ins) s) h)

    input : (i : ℕ) → i < s.inputs → at k values (1 + i) ≡ at k ins i
    unfolding values
    input i h =
        let rs = roots k (assigned k ins) s.inputs in
        let l : 1 + i < length rs = simp length-map-range_with_len (omega arith) in
        grown_keeps k rs s.pairs (1 + i) l ∙ ap (λ us. at k us (1 + i)) (roots_are k ins s.inputs given) ∙ at_input ins i

    edge_kept : (e : Edge) → node e < nodes s → means k (at k all) e ≡ means k (at k values) e
    edge_kept e h = means_at k (at k all) (at k values) e (kept (node e) h)

    pub valued : Valuation k s ins (node_values k (assigned k ins) s ++ drop (nodes s) old)
    unfolding all values
    valued = record {
      constant = kept 0 (omega arith) ∙ zeroth k (assigned k ins) s;
      inputs = λ i h. kept (1 + i) (omega arith) ∙ input i h;
      ands = λ j p h.
          let n = nth_within s.pairs j p h in
          let r = well.earlier j p h in
          kept (s.inputs + 1 + j) (omega arith) ∙ node_value k (assigned k ins) b lawful s well j p h
          ∙ sym (ap₂ k.and (edge_kept p.larger (omega arith)) (edge_kept p.smaller (omega arith)));
    }

  module _ (b : Window → Reply) (s : State) (well : Well b s) (ins us vs : List V) (hu : Valuation k s ins us) (hv : Valuation k s ins vs) where
    -- two valuations agree at a node where they agree at the nodes before it
    next : (n : ℕ) → n < nodes s → ((m : ℕ) → m < n → at k us m ≡ at k vs m) → at k us n ≡ at k vs n
    next zero h before = hu.constant ∙ sym hv.constant
    next (suc n) h before =
        let e : suc n ≡ 1 + n = omega arith in
        ⊎_elim (λ (l : n < s.inputs). ap (at k us) e ∙ hu.inputs n l ∙ sym (hv.inputs n l) ∙ ap (at k vs) (sym e)) (λ (l : s.inputs ≤ n).
        let j = n - s.inputs in
        let a : suc n ≡ s.inputs + 1 + j = omega arith in
        let f = nth_some s.pairs j (omega arith) in
        let r = well.earlier j f.0 f.1 in
        ap (at k us) a
        ∙ hu.ands j f.0 f.1
        ∙ ap₂ k.and (means_at k (at k us) (at k vs) f.0.larger (before _ (omega arith))) (means_at k (at k us) (at k vs) f.0.smaller (before _ (omega arith)))
        ∙ sym (hv.ands j f.0 f.1)
        ∙ ap (at k vs) (sym a)) (cases_lt n s.inputs)

    below : (n : ℕ) → n ≤ nodes s → (m : ℕ) → m < n → at k us m ≡ at k vs m
    below zero h m l = absurd (omega arith)
    below (suc n) h m l =
        ⊎_elim (λ (a : m < n). below n (omega arith) m a)
        (λ (a : n ≤ m). let e : n ≡ m = omega arith in ap (at k us) (sym e) ∙ next n (omega arith) (below n (omega arith)) ∙ ap (at k vs) e) (cases_lt m n)

  pub one_valuation : (b : Window → Reply) → OneValuation k b
  one_valuation b s well ins us vs hu hv n h = below b s well ins us vs hu hv (suc n) (omega arith) n (omega arith)
