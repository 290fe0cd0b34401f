-- The turns of settling two operands, and where a node's pair is stored.
use Rattle.std.proofs.Common.{◌≡◌, ℕ, zero, suc, ◌+◌, ◌-◌, ◌<◌, ◌≤◌, None, Some, Option, SomeIff, MatchOption, sym, ap, ◌∙◌, ap₂, arith}
use Rattle.std.specs.List.{slice_get}
use Rattle.std.proofs.lemmas.Bool.{cond-true, cond-false, lt-ltb, le-ltb}
use Rattle.rules.specs.declared.edge.Edge.{Edge}
use Rattle.rules.specs.declared.pair.Pair.{Pair}
use Rattle.rules.specs.declared.window.Window.{Window}
use Rattle.rules.specs.declared.window.Reply.{Reply}
use Rattle.rules.specs.Edges.{node}
use Rattle.rules.specs.Pairs.{pair_of}
use Rattle.graph_model.specs.declared.settled.Settled.TheVariants.{ToStore}
use Rattle.graph_model.specs.Graphs.{State}
use Rattle.graph_model.specs.Requests.{trivial, stored, window, settle, settlement, unless_trivial, by_reply}

pub stored_and : (s : State) (e : Edge) → s.inputs < node e → stored s e ≡ slice_get s.pairs (node e - (s.inputs + 1))
unfolding stored
stored_and s e h = cond-true _ _ _ (lt-ltb _ _ h)

pub stored_none : (s : State) (e : Edge) → node e ≤ s.inputs → stored s e ≡ None
unfolding stored
stored_none s e h = cond-false _ _ _ (le-ltb _ _ h)

-- the pair of a node, got by its position among the stored ones, where it has one
pub stored_at : (s : State) (e : Edge) (n : ℕ) (o : Option ℕ) (r : Option Pair) (Q : ℕ → Type 0) → n ≡ node e → SomeIff o (s.inputs + 1 ≤ n) (n - (s.inputs + 1)) → ((k : ℕ) → Q k → r ≡ slice_get s.pairs k) → MatchOption o (r ≡ None) Q → r ≡ stored s e
stored_at s e n None r Q h i q m = m ∙ sym (stored_none s e (omega arith))
stored_at s e n (Some k) r Q h i q m =
    let at : k ≡ node e - (s.inputs + 1) = omega arith in
    q k m ∙ ap (slice_get s.pairs) at ∙ sym (stored_and s e (omega arith))

module _ (b : Window → Reply) (s : State) where
  -- one turn of w + 1
  pub turn : (w t : ℕ) (u v : Edge) (o : Option Edge) (r : Reply) → t < w + 1 → trivial u v ≡ o → b (window s (pair_of u v)) ≡ r
      → settle b s (w + 1 - t) u v ≡ unless_trivial o (by_reply (pair_of u v) r (λ q. settle b s (w + 1 - (t + 1)) q.larger q.smaller))
  unfolding settle
  turn w t u v o r h e a =
      let n : w + 1 - t ≡ suc (w + 1 - (t + 1)) = omega arith in
      ap (λ k. settle b s k u v) n ∙ ap₂ (λ z x. unless_trivial z (by_reply (pair_of u v) x (λ q. settle b s (w + 1 - (t + 1)) q.larger q.smaller))) e a

  pub all_turns : (x y : Edge) → settlement b s x y ≡ settle b s (node x + node y + 1 - 0) x y
  all_turns x y = let n : suc (node x + node y) ≡ node x + node y + 1 - 0 = omega arith in ap (λ k. settle b s k x y) n

  pub no_turns : (w t : ℕ) (u v : Edge) → w + 1 ≤ t → settle b s (w + 1 - t) u v ≡ ToStore (pair_of u v)
  unfolding settle
  no_turns w t u v h = let n : w + 1 - t ≡ zero = omega arith in ap (λ k. settle b s k u v) n

  -- what the rules said, by the contracts of three calls
  pub said : (u v : Edge) {p : Pair} {w : Window} {r q : Reply} → p ≡ pair_of u v → w ≡ window s p → r ≡ b w → r ≡ q → b (window s (pair_of u v)) ≡ q
  said u v e f h i = ap (λ z. b (window s z)) (sym e) ∙ ap b (sym f) ∙ sym h ∙ i

  -- one turn that no trivial case answers, by the contracts of four calls
  pub turn_by : (w t : ℕ) (u v : Edge) {o : Option Edge} {p : Pair} {z : Window} {r q : Reply} → t < w + 1 → o ≡ trivial u v → o ≡ None
      → p ≡ pair_of u v → z ≡ window s p → r ≡ b z → r ≡ q
      → settle b s (w + 1 - t) u v ≡ by_reply (pair_of u v) q (λ q. settle b s (w + 1 - (t + 1)) q.larger q.smaller)
  turn_by w t u v h e n f g i a = turn w t u v None _ h (sym e ∙ n) (said u v f g i a)
