-- The calls that a growing graph has left, one after another.
use Rattle.std.proofs.Common.{◌≡◌, ℕ, zero, suc, ◌+◌, ◌*◌, ◌-◌, ◌<◌, ◌≤◌, Bool, length, IsErrAnd, Ok, Err, Result, sym, refl, ap, ◌∙◌, ap₂, arith}
use Rattle.std.proofs.lemmas.Bool.{cond-true, cond-false, le-leb, lt-leb}
use Rattle.rules.specs.declared.edge.Edge.{Edge}
use Rattle.rules.specs.declared.window.Window.{Window}
use Rattle.rules.specs.declared.window.Reply.{Reply}
use Rattle.rules.specs.Edges.{edge}
use Rattle.graph_model.specs.declared.refusal.Refusal.{Refusal}
use Rattle.graph_model.specs.Graphs.{State, nodes}
use Rattle.graph_model.specs.Requests.{Anded, and_of}
use Rattle.workloads.specs.Randoms.{below, after}
use Rattle.workloads.specs.Growths.{Growth, asked, twice, unless_refused, growth}

-- one call, by its numbers n, p and q, the states w and z after each, and its answer
pub record Call (b : Window → Reply) (s : State) (x z : ℕ) (a : Result (Edge × Bool) Refusal) (t : State) : Type 0 where
  pub answer : (asked b s x).answer ≡ a
  pub graph : (asked b s x).after ≡ t
  pub state : twice s x ≡ z

pub called : (b : Window → Reply) (s t : State) (x n p w q z : ℕ) (a : Result (Edge × Bool) Refusal) → n ≡ 2 * nodes s → p ≡ below x n → w ≡ after x n → q ≡ below w n → z ≡ after w n → a ≡ (and_of b s (edge p) (edge q)).answer → t ≡ (and_of b s (edge p) (edge q)).after → Call b s x z a t
called b s t x n p w q z a en ep ew eq ez ea et =
    let w' = ew ∙ ap (after x) en in
    let same : and_of b s (edge p) (edge q) ≡ asked b s x = ap₂ (λ u v. and_of b s (edge u) (edge v)) (ep ∙ ap (below x) en) (eq ∙ ap₂ below w' en) in
    record {
      answer = sym (ea ∙ ap (λ (z : Anded). z.answer) same);
      graph = sym (et ∙ ap (λ (z : Anded). z.after) same);
      state = sym (ez ∙ ap₂ after w' en);
    }

module _ (b : Window → Reply) (m most made : ℕ) (s : State) (x : ℕ) where
  -- there are enough nodes
  pub enough : m ≤ length s.pairs → growth b m (most - made) made s x ≡ record { answer = Ok made; graph = s; state = x }
  unfolding growth
  enough l = go (most - made)
    where
      go : (k : ℕ) → growth b m k made s x ≡ record { answer = Ok made; graph = s; state = x }
      go zero = refl
      go (suc k) = cond-true _ _ _ (le-leb _ _ l)

  -- no call is left
  pub no_more : most ≤ made → growth b m (most - made) made s x ≡ record { answer = Ok made; graph = s; state = x }
  unfolding growth
  no_more l = let e : most - made ≡ 0 = omega arith in ap (λ k. growth b m k made s x) e

  one : made < most → length s.pairs < m → growth b m (most - made) made s x ≡ unless_refused (asked b s x).answer (asked b s x).after (twice s x) (growth b m (most - (made + 1)) (made + 1) (asked b s x).after (twice s x))
  unfolding growth
  one i l =
      let e : most - made ≡ suc (most - (made + 1)) = omega arith in
      ap (λ k. growth b m k made s x) e ∙ cond-false _ _ _ (lt-leb _ _ l)

  -- a call is answered
  pub goes_on : made < most → length s.pairs < m → (r : Edge × Bool) (t : State) (z : ℕ) → Call b s x z (Ok r) t → growth b m (most - made) made s x ≡ growth b m (most - (made + 1)) (made + 1) t z
  goes_on i l r t z c =
      one i l
      ∙ ap (λ a. unless_refused a (asked b s x).after (twice s x) (growth b m (most - (made + 1)) (made + 1) (asked b s x).after (twice s x))) c.answer
      ∙ ap₂ (growth b m (most - (made + 1)) (made + 1)) c.graph c.state

  -- a call is refused
  pub stops : made < most → length s.pairs < m → (f : Refusal) (t : State) (z : ℕ) → Call b s x z (Err f) t → growth b m (most - made) made s x ≡ record { answer = Err f; graph = t; state = z }
  stops i l f t z c =
      let E : State → ℕ → Growth = λ u y. record { answer = Err f; graph = u; state = y } in
      one i l
      ∙ ap (λ a. unless_refused a (asked b s x).after (twice s x) (growth b m (most - (made + 1)) (made + 1) (asked b s x).after (twice s x))) c.answer
      ∙ ap₂ E c.graph c.state

-- a refusal handed on by `?`
pub refused : {A B : Type 0} (a : Result A B) (c : B) → IsErrAnd a (λ e. e ≡ c) → a ≡ Err c
refused (Ok x) c h = absurd h
refused (Err e) c h = ap Err h
