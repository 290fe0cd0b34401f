-- How two operands are settled: in one way, in either order, inside the graph, and whatever is stored later.
use Rattle.std.proofs.Common.{◌≡◌, ℕ, zero, suc, ◌+◌, ◌-◌, ◌<◌, Bool, true, false, cond, ltb, List, [], ◌∷◌, ◌++◌, length, Some, None, Option, sym, refl, ap, ◌∙◌, subst, arith}
use Rattle.std.proofs.lemmas.Bool.{cond-true, cond-false, ltb-true}
use Rattle.std.proofs.lemmas.Bool.Decides.{nat_tests}
use Rattle.std.specs.List.{slice_get}
use Rattle.rules.specs.declared.edge.Edge.{Edge}
use Rattle.rules.specs.declared.pair.Pair.{Pair}
use Rattle.rules.specs.declared.window.Operand.{Operand}
use Rattle.rules.specs.declared.window.Window.{Window}
use Rattle.rules.specs.declared.window.Reply.{Reply}
use Rattle.rules.specs.declared.window.Reply.TheVariants.{Edge as an_edge, Pair as a_pair, Store as store}
use Rattle.rules.specs.Edges.{edge, node, complement}
use Rattle.rules.specs.Pairs.{pair_of, weight}
use Rattle.rules.specs.Table.{Child}
use Rattle.rules.specs.Meaning.{InWindow, Known, Each, Above, Lighter}
use Rattle.rules.specs.Lawful.{Lawful}
use Rattle.rules.proofs.Edged.{node-complement, of_pair, pair_of_sym}
use Rattle.graph_model.specs.declared.settled.Settled.{Settled}
use Rattle.graph_model.specs.declared.settled.Settled.TheVariants.{Answered, ToStore}
use Rattle.graph_model.specs.Graphs.{State, Inside}
use Rattle.graph_model.specs.Requests.{settle, unless_trivial, by_reply, operand, trivial, window, stored}
use Rattle.graph_model.specs.Settling.{Unlike, Trivial, false_left, false_right, true_left, true_right, twice, against, unlike, Settles, trivially, by_rule, again, to_store}
use Rattle.graph_model.specs.WellFormed.{Well, Extends}
use Rattle.graph_model.proofs.Meanings.{trivial_view, trivial_is}

-- ---- either order
against_turn : (x y : Edge) → x.0 ≡ (complement y).0 → y.0 ≡ (complement x).0
against_turn x y h = grind (arith, nat_tests)

pub unlike_turn : {x y : Edge} → Unlike x y → Unlike y x
unlike_turn {x} {y} u = record {
  x_not_false = u.y_not_false;
  y_not_false = u.x_not_false;
  x_not_true = u.y_not_true;
  y_not_true = u.x_not_true;
  not_same = λ h. u.not_same (sym h);
  not_against = λ h. u.not_against (against_turn y x h);
}

trivial_turn : {x y : Edge} {o : Option Edge} → Trivial x y o → Trivial y x o
trivial_turn (false_left h) = false_right h
trivial_turn (false_right h) = false_left h
trivial_turn (true_left h) = true_right h
trivial_turn (true_right h) = true_left h
trivial_turn {x} {y} (twice h) = let P : Edge → Type 0 = λ e. Trivial y x (Some e) in subst P (ap edge (sym h)) (twice (sym h))
trivial_turn {x} {y} (against h) = against (against_turn x y h)
trivial_turn (unlike u) = unlike (unlike_turn u)

pub settles_sym : {b : Window → Reply} {s : State} {x y : Edge} {g : Settled} → Settles b s x y g → Settles b s y x g
settles_sym (trivially h) = trivially (trivial_turn h)
settles_sym {b} {s} {x} {y} (by_rule u r) = by_rule (unlike_turn u) (ap (λ q. b (window s q)) (pair_of_sym y x) ∙ r)
settles_sym {b} {s} {x} {y} (again u r t) = again (unlike_turn u) (ap (λ q. b (window s q)) (pair_of_sym y x) ∙ r) t
settles_sym {b} {s} {x} {y} (to_store u r) =
    let P : Pair → Type 0 = λ q. Settles b s y x (ToStore q) in
    subst P (pair_of_sym y x) (to_store (unlike_turn u) (ap (λ q. b (window s q)) (pair_of_sym y x) ∙ r))

-- ---- one outcome
pub settles_one : {b : Window → Reply} {s : State} {x y : Edge} (g h : Settled) → Settles b s x y g → Settles b s x y h → g ≡ h
settles_one g h (trivially p) (trivially q) = let a = trivial_is p in let c = trivial_is q in cc
settles_one g h (trivially p) (by_rule q u) = let a = trivial_is p in let c = trivial_is (unlike q) in cc
settles_one g h (trivially p) (again q u v) = let a = trivial_is p in let c = trivial_is (unlike q) in cc
settles_one g h (trivially p) (to_store q u) = let a = trivial_is p in let c = trivial_is (unlike q) in cc
settles_one g h (by_rule p r) (trivially q) = let a = trivial_is (unlike p) in let c = trivial_is q in cc
settles_one g h (by_rule p r) (by_rule q u) = cc
settles_one g h (by_rule p r) (again q u v) = cc
settles_one g h (by_rule p r) (to_store q u) = cc
settles_one g h (again p r t) (trivially q) = let a = trivial_is (unlike p) in let c = trivial_is q in cc
settles_one g h (again p r t) (by_rule q u) = cc
settles_one {b} {s} g h (again {q = m} p r t) (again {q = n} q u v) =
    let e : m ≡ n = cc in
    let P : Pair → Type 0 = λ o. Settles b s o.larger o.smaller h in
    settles_one g h t (subst P (sym e) v)
settles_one g h (again p r t) (to_store q u) = cc
settles_one g h (to_store p r) (trivially q) = let a = trivial_is (unlike p) in let c = trivial_is q in cc
settles_one g h (to_store p r) (by_rule q u) = cc
settles_one g h (to_store p r) (again q u v) = cc
settles_one g h (to_store p r) (to_store q u) = cc

-- ---- windows inside a graph
pub nth_append_left : {A : Type 0} (xs ys : List A) (i : ℕ) → i < length xs → slice_get (xs ++ ys) i ≡ slice_get xs i
nth_append_left [] ys i h = absurd (omega arith)
nth_append_left (x ∷ xs) ys zero h = refl
nth_append_left (x ∷ xs) ys (suc i) h = nth_append_left xs ys i (omega arith)

pub nth_within : {A : Type 0} (xs : List A) (i : ℕ) (x : A) → slice_get xs i ≡ Some x → i < length xs
nth_within [] i x h = let z : ◌≡◌ {A = ℕ} 0 1 = cc in absurd (omega arith)
nth_within (y ∷ ys) zero x h = omega arith
nth_within (y ∷ ys) (suc i) x h = let r = nth_within ys i x h in omega arith

pub nth_split : {A : Type 0} (xs : List A) (i : ℕ) (x : A) → slice_get xs i ≡ Some x → (us : List A) × (vs : List A) × (xs ≡ us ++ (x ∷ vs)) × (length us ≡ i)
nth_split [] i x h = let z : ◌≡◌ {A = ℕ} 0 1 = cc in absurd (omega arith)
nth_split (y ∷ ys) zero x h = let e : y ≡ x = cc in ([], ys, ap (λ z. z ∷ ys) e, refl)
nth_split (y ∷ ys) (suc i) x h = let r = nth_split ys i x h in (y ∷ r.0, r.1, ap (λ zs. y ∷ zs) r.2, ap suc r.3)

cond_same : {A : Type 0} (t : Bool) (x u y : A) → (t ≡ true → x ≡ u) → cond t x y ≡ cond t u y
cond_same true x u y h = h refl
cond_same false x u y h = refl

pub stored_extends : (s t : State) (e : Edge) → Extends s t → Inside s e → stored t e ≡ stored s e
unfolding stored
stored_extends s t e x h =
    rw (x.inputs, x.pairs)
    (cond_same (ltb s.inputs (node e)) _ _ None (λ l. let m = ltb-true _ _ l in nth_append_left s.pairs x.more _ (omega arith)))

pub window_extends : (s t : State) (p : Pair) → Extends s t → Inside s p.larger → Inside s p.smaller → window t p ≡ window s p
unfolding window
window_extends s t p x h l =
    let W : Option Pair → Option Pair → Window = λ a c. record { larger = record { edge = p.larger; children = a }; smaller = record { edge = p.smaller; children = c } } in
    ap (λ a. W a (stored t p.smaller)) (stored_extends s t p.larger x h) ∙ ap (W (stored s p.larger)) (stored_extends s t p.smaller x l)

pub stored_at : (s : State) (e : Edge) (p : Pair) → stored s e ≡ Some p → (s.inputs < node e) × (slice_get s.pairs (node e - (s.inputs + 1)) ≡ Some p)
unfolding stored
stored_at s e p h = go (ltb s.inputs (node e)) refl
  where
    go : (t : Bool) → ltb s.inputs (node e) ≡ t → (s.inputs < node e) × (slice_get s.pairs (node e - (s.inputs + 1)) ≡ Some p)
    go true q = (ltb-true _ _ q, sym (cond-true _ _ _ q) ∙ h)
    go false q = let n : None ≡ Some p = sym (cond-false _ _ _ q) ∙ h in let z : ◌≡◌ {A = ℕ} 0 1 = cc in absurd (omega arith)

-- ---- a well-formed graph under a lawful rule set
pub pair_of_all : (P : Edge → Type 0) (x y : Edge) → P x → P y → (P (pair_of x y).larger) × (P (pair_of x y).smaller)
pair_of_all P x y a c = of_pair x y (λ u v. P u × P v) (a, c) (c, a)

pub pair_of_sum : (x y : Edge) → weight (pair_of x y) ≡ node x + node y
pair_of_sum x y = of_pair x y (λ u v. node u + node v ≡ node x + node y) refl (omega arith)

abbrev EdgeInside : State → Option Edge → Type 0
EdgeInside s None = Unit {0}
EdgeInside s (Some e) = Inside s e

abbrev pub SettledInside : State → Settled → Type 0
SettledInside s (Answered e) = Inside s e
SettledInside s (ToStore p) = Inside s p.larger × Inside s p.smaller

module _ (b : Window → Reply) (lawful : Lawful b) (s : State) (well : Well b s) where
  pub stored_above : (e : Edge) → Above (operand s e)
  stored_above e a c (Child.larger {p = p} h) = let o = stored_at s e p h in let r = well.earlier _ p o.1 in omega arith
  stored_above e a c (Child.smaller {p = p} h) = let o = stored_at s e p h in let r = well.earlier _ p o.1 in omega arith

  -- an edge of the window of a pair in the graph is in the graph
  window_inside : (p : Pair) → Inside s p.larger → Inside s p.smaller → (w : Window) → w ≡ window s p → (e : Edge) → InWindow w e → Inside s e
  unfolding window
  window_inside p h l w q e InWindow.larger = let r : w.larger.edge ≡ p.larger = ap (λ (v : Window). v.larger.edge) q in rw r h
  window_inside p h l w q e InWindow.smaller = let r : w.smaller.edge ≡ p.smaller = ap (λ (v : Window). v.smaller.edge) q in rw r l
  window_inside p h l w q e (InWindow.below_larger {b = c} m) =
      let P : Operand → Type 0 = λ o. Child o e c in
      let r : Child (operand s p.larger) e c = subst P (ap (λ (v : Window). v.larger) q) m in
      let a = stored_above p.larger e c r in omega arith
  window_inside p h l w q e (InWindow.below_smaller {b = c} m) =
      let P : Operand → Type 0 = λ o. Child o e c in
      let r : Child (operand s p.smaller) e c = subst P (ap (λ (v : Window). v.smaller) q) m in
      let a = stored_above p.smaller e c r in omega arith

  known_inside : (p : Pair) → Inside s p.larger → Inside s p.smaller → (w : Window) → w ≡ window s p → (e : Edge) → Known w e → Inside s e
  known_inside p h l w q e Known.constant = omega arith
  known_inside p h l w q e (Known.plain m) = window_inside p h l w q e m
  known_inside p h l w q e (Known.flipped {e = f} m) = rw (node-complement f) (window_inside p h l w q f m)

  pub replied_inside : (p : Pair) (r : Reply) → b (window s p) ≡ r → Inside s p.larger → Inside s p.smaller → Each (Inside s) r
  replied_inside p r q h l = go r (subst (λ z. Each (Known (window s p)) z) q (lawful.local (window s p)))
    where
      go : (z : Reply) → Each (Known (window s p)) z → Each (Inside s) z
      go (an_edge e) m = known_inside p h l (window s p) refl e m
      go (a_pair o) m = (known_inside p h l (window s p) refl o.larger m.0, known_inside p h l (window s p) refl o.smaller m.1)
      go store m = tt

  pub settles_inside : {x y : Edge} {g : Settled} → Settles b s x y g → Inside s x → Inside s y → SettledInside s g
  settles_inside (trivially {x} {y} t) i j = go t
    where
      go : {o : Option Edge} → Trivial x y o → EdgeInside s o
      go (false_left a) = omega arith
      go (false_right a) = omega arith
      go (true_left a) = j
      go (true_right a) = i
      go (twice a) = i
      go (against a) = omega arith
      go (unlike a) = tt
  settles_inside (by_rule {x} {y} {e} h r) i j = let p = pair_of_all (Inside s) x y i j in replied_inside (pair_of x y) (an_edge e) r p.0 p.1
  settles_inside (again {x} {y} {q} h r t) i j =
      let p = pair_of_all (Inside s) x y i j in
      let a = replied_inside (pair_of x y) (a_pair q) r p.0 p.1 in
      settles_inside t a.0 a.1
  settles_inside (to_store {x} {y} h r) i j = pair_of_all (Inside s) x y i j

  -- whatever was stored since, the goal is the same
  pub settles_extends : (t : State) → Extends s t → {x y : Edge} {g : Settled} → Settles b s x y g → Inside s x → Inside s y → Settles b t x y g
  settles_extends t ext (trivially h) i j = trivially h
  settles_extends t ext (by_rule {x} {y} h r) i j =
      let p = pair_of_all (Inside s) x y i j in by_rule h (ap b (window_extends s t _ ext p.0 p.1) ∙ r)
  settles_extends t ext (again {x} {y} {q} h r u) i j =
      let p = pair_of_all (Inside s) x y i j in
      let a = replied_inside (pair_of x y) (a_pair q) r p.0 p.1 in
      again h (ap b (window_extends s t _ ext p.0 p.1) ∙ r) (settles_extends t ext u a.0 a.1)
  settles_extends t ext (to_store {x} {y} h r) i j =
      let p = pair_of_all (Inside s) x y i j in to_store h (ap b (window_extends s t _ ext p.0 p.1) ∙ r)

  pub falls_at : (p : Pair) → Lighter (weight p) (b (window s p))
  unfolding window
  falls_at p = lawful.falls (window s p) (stored_above p.larger) (stored_above p.smaller)

  -- the budget suffices: the function finds what the relation says
  pub settle_settles : (n : ℕ) (x y : Edge) → Inside s x → Inside s y → node x + node y < n → Settles b s x y (settle b s n x y)
  unfolding settle
  settle_settles zero x y i j h = absurd (omega arith)
  settle_settles (suc n) x y i j h = go (λ u v. settle_settles n u v) (trivial x y) (trivial_view x y)
    where
      Next : Type 0
      Next = (u v : Edge) → Inside s u → Inside s v → node u + node v < n → Settles b s u v (settle b s n u v)

      rules : Next → Unlike x y → (r : Reply) → b (window s (pair_of x y)) ≡ r → Settles b s x y (by_reply (pair_of x y) r (λ q. settle b s n q.larger q.smaller))
      rules next o (an_edge e) q = by_rule o q
      rules next o (a_pair p) q =
          let w = window s (pair_of x y) in
          let m = pair_of_all (Inside s) x y i j in
          let a = replied_inside (pair_of x y) (a_pair p) q m.0 m.1 in
          let P : Reply → Type 0 = Lighter (weight (pair_of x y)) in
          let f : weight p < weight (pair_of x y) = subst P q (falls_at (pair_of x y)) in
          again o q (next p.larger p.smaller a.0 a.1 (omega (arith, pair_of_sum x y)))
      rules next o store q = to_store o q

      go : Next → (o : Option Edge) → Trivial x y o → Settles b s x y (unless_trivial o (by_reply (pair_of x y) (b (window s (pair_of x y))) (λ q. settle b s n q.larger q.smaller)))
      go next (Some e) t = trivially t
      go next None (unlike u) = rules next u (b (window s (pair_of x y))) refl
