-- An AND request: what it means, what it keeps, and the same request again.
use Rattle.std.proofs.Common.{◌≡◌, ℕ, zero, suc, ◌+◌, ◌-◌, ◌*◌, ◌<◌, ◌≤◌, Bool, true, false, cond, ◌&&◌, ltb, ◌⊎◌, List, [], ◌∷◌, ◌++◌, length, Some, None, Ok, Err, Option, Result, sym, refl, ap, ◌∙◌, subst, inl, inr, append_assoc, arith, length-append}
use Rattle.std.proofs.lemmas.List.FromFn.{length-map-range_with_len}
use Rattle.std.proofs.lemmas.List.{append-nil, length_push}
use Rattle.std.proofs.lemmas.Bool.{cond_both, cases_lt, ltb-true, ltb-false, lt-ltb, le-leb, and_parts, and_cases, and_from, both_ways}
use Rattle.std.specs.List.{slice_get}
use Rattle.values.specs.Algebra.{BooleanAlgebra}
use Rattle.rules.specs.declared.edge.Edge.{Edge}
use Rattle.rules.specs.declared.pair.Pair.{Pair}
use Rattle.rules.specs.declared.window.Window.{Window}
use Rattle.rules.specs.declared.window.Reply.{Reply}
use Rattle.rules.specs.declared.window.Reply.TheVariants.{Edge as an_edge, Pair as a_pair, Store as store}
use Rattle.rules.specs.Edges.{plain, node}
use Rattle.rules.specs.Pairs.{pair_of}
use Rattle.rules.specs.Meaning.{means, pair_means, Follows, Means}
use Rattle.rules.specs.Lawful.{Lawful}
use Rattle.rules.proofs.Edged.{of_pair}
use Rattle.stores.specs.Stored.{position, accepts, Found}
use Rattle.stores.proofs.Positions.{position_found}
use Rattle.graph_model.specs.declared.refusal.Refusal.{Refusal}
use Rattle.graph_model.specs.declared.settled.Settled.{Settled}
use Rattle.graph_model.specs.declared.settled.Settled.TheVariants.{Answered, ToStore}
use Rattle.graph_model.specs.Graphs.{State, nodes, Inside, at, grown, roots, node_values, meaning}
use Rattle.graph_model.specs.Requests.{Anded, window, operand, settlement, push, place, reach, and_of}
use Rattle.graph_model.specs.Settling.{Unlike, Settles, trivially, by_rule, again, to_store, Absent, Ands, no_node, answered, found, added, full}
use Rattle.graph_model.specs.WellFormed.{Well, Extends}
use Rattle.graph_model.proofs.Meanings.{trivial_means, means_plain, means_at, grown_append, grown_keeps, grown_next, length-grown, pair_keeps}
use Rattle.graph_model.proofs.Settling.{unlike_turn, settles_sym, settles_one, settles_inside, settles_extends, settle_settles, stored_at, nth_split, nth_within, nth_append_left, window_extends, SettledInside}

-- the edge and the flag of an answer, if it names one
abbrev pub On : Result (Edge × Bool) Refusal → (Edge → Bool → Type 0) → Type 0
On (Ok a) P = P a.0 a.1
On (Err c) P = Unit {0}

pub extends_refl : (s : State) → Extends s s
extends_refl s = record { inputs = refl; limit = refl; max_edge = refl; more = []; pairs = sym (append-nil _) }

pub extends_trans : (s t u : State) → Extends s t → Extends t u → Extends s u
extends_trans s t u a c = record {
  inputs = c.inputs ∙ a.inputs;
  limit = c.limit ∙ a.limit;
  max_edge = c.max_edge ∙ a.max_edge;
  more = a.more ++ c.more;
  pairs = c.pairs ∙ ap (λ l. l ++ c.more) a.pairs ∙ append_assoc s.pairs a.more c.more;
}

pub extends_push : (s : State) (p : Pair) → Extends s (push s p)
extends_push s p = record { inputs = refl; limit = refl; max_edge = refl; more = p ∷ []; pairs = refl }

pub extends_inside : (s t : State) (e : Edge) → Extends s t → Inside s e → Inside t e
extends_inside s t e x h =
    let n : length t.pairs ≡ length s.pairs + length x.more = ap length x.pairs ∙ length-append s.pairs x.more in
    let i = x.inputs in omega arith

module _ {V : Type 0} (k : BooleanAlgebra V) (ρ : ℕ → V) where
  roots-length : (i : ℕ) → length (roots k ρ i) ≡ i + 1
  roots-length i = simp length-map-range_with_len (omega arith)

  pub values_length : (s : State) → length (node_values k ρ s) ≡ nodes s
  values_length s = length-grown k (roots k ρ s.inputs) s.pairs ∙ ap (λ n. n + length s.pairs) (roots-length s.inputs)

  pub zeroth : (s : State) → at k (node_values k ρ s) 0 ≡ k.bottom
  unfolding at
  zeroth s = grown_keeps k (roots k ρ s.inputs) s.pairs 0 (omega arith)

  -- what an edge means stays, whatever is stored later
  pub meaning_extends : (s t : State) (e : Edge) → Extends s t → Inside s e → meaning k ρ t e ≡ meaning k ρ s e
  meaning_extends s t e x h =
      let G : List V → Type 0 = λ vs. at k vs (node e) ≡ at k (node_values k ρ s) (node e) in
      let same_list : grown k (node_values k ρ s) x.more ≡ node_values k ρ t =
      sym (ap (λ i. grown k (roots k ρ i) t.pairs) x.inputs ∙ ap (grown k (roots k ρ s.inputs)) x.pairs ∙ grown_append k (roots k ρ s.inputs) s.pairs x.more) in
      means_at k (at k (node_values k ρ t)) (at k (node_values k ρ s)) e (subst G same_list (grown_keeps k (node_values k ρ s) x.more (node e) (rw (values_length s) h)))

  module _ (b : Window → Reply) (lawful : Lawful b) (s : State) (well : Well b s) where
    -- an AND node has the AND of its two edges
    pub node_value : (i : ℕ) (p : Pair) → slice_get s.pairs i ≡ Some p → at k (node_values k ρ s) (s.inputs + 1 + i) ≡ pair_means k (at k (node_values k ρ s)) p
    node_value i p h =
        let r = well.earlier i p h in
        let c = nth_split s.pairs i p h in
        let vs : List V = grown k (roots k ρ s.inputs) c.0 in
        let n : length vs ≡ s.inputs + 1 + i = length-grown k (roots k ρ s.inputs) c.0 ∙ ap (λ m. m + length c.0) (roots-length s.inputs) ∙ ap (λ m. s.inputs + 1 + m) c.3 in
        let all : node_values k ρ s ≡ grown k vs (p ∷ c.1) = ap (grown k (roots k ρ s.inputs)) c.2 ∙ grown_append k (roots k ρ s.inputs) c.0 (p ∷ c.1) in
        let P : List V → Type 0 = λ ws. at k ws (s.inputs + 1 + i) ≡ pair_means k (at k ws) p in
        subst P (sym all) (ap (at k (grown k vs (p ∷ c.1))) (sym n) ∙ grown_next k vs p c.1 ∙ sym (pair_keeps k vs (p ∷ c.1) p (omega arith) (omega arith)))

    stored_follows : (e : Edge) → Follows k (at k (node_values k ρ s)) (operand s e)
    unfolding means
    stored_follows e p h =
        let a = stored_at s e p h in
        let n : s.inputs + 1 + (node e - (s.inputs + 1)) ≡ node e = omega (arith, a.0) in
        ap (at k (node_values k ρ s)) (sym n) ∙ node_value (node e - (s.inputs + 1)) p a.1

    abbrev pub SettledMeans : Settled → V
    SettledMeans (Answered e) = meaning k ρ s e
    SettledMeans (ToStore p) = pair_means k (at k (node_values k ρ s)) p

    pair_of_means : (x y : Edge) → pair_means k (at k (node_values k ρ s)) (pair_of x y) ≡ k.and (meaning k ρ s x) (meaning k ρ s y)
    pair_of_means x y = of_pair x y (λ u v. k.and (meaning k ρ s u) (meaning k ρ s v) ≡ k.and (meaning k ρ s x) (meaning k ρ s y)) refl (k.comm _ _)

    Says : Pair → Reply → Type 0
    Says p (an_edge e) = meaning k ρ s e ≡ pair_means k (at k (node_values k ρ s)) p
    Says p (a_pair q) = pair_means k (at k (node_values k ρ s)) q ≡ pair_means k (at k (node_values k ρ s)) p
    Says p store = Unit {0}

    says : (p : Pair) (r : Reply) → Means k (at k (node_values k ρ s)) p.larger p.smaller r → Says p r
    unfolding means Says
    says p (an_edge e) h = h
    says p (a_pair q) h = h
    says p store h = tt

    rules_mean : (p : Pair) (r : Reply) → b (window s p) ≡ r → Says p r
    unfolding window
    rules_mean p r q =
        let P : Reply → Type 0 = Says p in
        subst P q (says p (b (window s p)) (lawful.sound V k (at k (node_values k ρ s)) (window s p) (record { constant = zeroth s; larger = stored_follows p.larger; smaller = stored_follows p.smaller })))

    pub settles_means : {x y : Edge} {g : Settled} → Settles b s x y g → SettledMeans g ≡ k.and (meaning k ρ s x) (meaning k ρ s y)
    unfolding Says
    settles_means (trivially h) = trivial_means k (at k (node_values k ρ s)) (zeroth s) h
    settles_means (by_rule {x} {y} {e} h r) = rules_mean (pair_of x y) (an_edge e) r ∙ pair_of_means x y
    settles_means (again {x} {y} {q} h r t) = settles_means t ∙ rules_mean (pair_of x y) (a_pair q) r ∙ pair_of_means x y
    settles_means (to_store {x} {y} h r) = pair_of_means x y

-- ---- lists of pairs that grow
nth_push_cases : {A : Type 0} (xs : List A) (x y : A) (i : ℕ) → slice_get (xs ++ (x ∷ [])) i ≡ Some y → (slice_get xs i ≡ Some y) ⊎ ((i ≡ length xs) × (x ≡ y))
nth_push_cases [] x y zero h = inr (refl, cc)
nth_push_cases [] x y (suc i) h = let z : ◌≡◌ {A = ℕ} 0 1 = cc in absurd (omega arith)
nth_push_cases (z ∷ xs) x y zero h = inl h
nth_push_cases (z ∷ xs) x y (suc i) h = go (nth_push_cases xs x y i h)
  where
    go : (slice_get xs i ≡ Some y) ⊎ ((i ≡ length xs) × (x ≡ y)) → (slice_get xs i ≡ Some y) ⊎ ((suc i ≡ length (z ∷ xs)) × (x ≡ y))
    go (inl a) = inl a
    go (inr a) = inr (ap suc a.0, a.1)

nth_at : {A : Type 0} (xs : List A) (x : A) (ys : List A) → slice_get (xs ++ (x ∷ ys)) (length xs) ≡ Some x
nth_at [] x ys = refl
nth_at (z ∷ xs) x ys = nth_at xs x ys

-- ---- an AND request, by its cases
-- in a well-formed graph every pair of its edges is accepted while there is room
pub accepts_inside : {b : Window → Reply} (s : State) → Well b s → (p : Pair) → Inside s p.larger → Inside s p.smaller → length s.pairs < s.limit → accepts s.limit s.max_edge s.pairs p ≡ true
accepts_inside s well p i j h = let r = well.roomy in and_from _ _ (lt-ltb _ _ h) (and_from _ _ (le-leb p.larger.0 s.max_edge (omega arith)) (le-leb p.smaller.0 s.max_edge (omega arith)))

pub and_ands : (b : Window → Reply) → Lawful b → (s : State) → Well b s → (x y : Edge) → Ands b s x y (and_of b s x y).answer (and_of b s x y).after
unfolding and_of
and_ands b lawful s well x y =
    let P : Anded → Type 0 = λ r. Ands b s x y r.answer r.after in
    cond_both (ltb (node x) (nodes s) && ltb (node y) (nodes s)) _ _ P
    (λ h. let a = and_parts _ _ h in inside (ltb-true _ _ a.0) (ltb-true _ _ a.1))
    (λ h. no_node (λ i j. outside (and_cases _ _ h) i j))
  where
    outside : (ltb (node x) (nodes s) ≡ false) ⊎ (ltb (node y) (nodes s) ≡ false) → Inside s x → Inside s y → ⊥
    outside (inl h) i j = let n = ltb-false _ _ h in omega arith
    outside (inr h) i j = let n = ltb-false _ _ h in omega arith

    goes : Inside s x → Inside s y → (p : Pair) → Settles b s x y (ToStore p) → (o : Option ℕ) → Found s.pairs p o → Ands b s x y (place s p o).answer (place s p o).after
    goes i j p t (Some n) f = found n i j t f
    goes i j p t None f =
        let P : Anded → Type 0 = λ r. Ands b s x y r.answer r.after in
        let c = settles_inside b lawful s well t i j in
        cond_both (accepts s.limit s.max_edge s.pairs p) _ _ P (λ h. added i j t f (ltb-true _ _ (and_parts _ _ h).0))
        (λ h. full i j t f (room (accepts_inside s well p c.0 c.1) h (cases_lt (length s.pairs) s.limit)))
      where
        room : (length s.pairs < s.limit → accepts s.limit s.max_edge s.pairs p ≡ true) → accepts s.limit s.max_edge s.pairs p ≡ false → (length s.pairs < s.limit) ⊎ (s.limit ≤ length s.pairs) → s.limit ≤ length s.pairs
        room f h (inl l) = absurd (both_ways (accepts s.limit s.max_edge s.pairs p) h (f l))
        room f h (inr l) = l

    go : Inside s x → Inside s y → (g : Settled) → Settles b s x y g → Ands b s x y (reach s g).answer (reach s g).after
    go i j (Answered e) t = answered i j t
    go i j (ToStore p) t = goes i j p t (position p s.pairs) (position_found s.pairs p)

    inside : Inside s x → Inside s y → Ands b s x y (reach s (settlement b s x y)).answer (reach s (settlement b s x y)).after
    inside i j = go i j (settlement b s x y) (settle_settles b lawful s well (suc (node x + node y)) x y i j (omega arith))

pub ands_extends : {b : Window → Reply} {s t : State} {x y : Edge} {a : Result (Edge × Bool) Refusal} → Ands b s x y a t → Extends s t
ands_extends {s = s} (no_node h) = extends_refl s
ands_extends {s = s} (answered i j t) = extends_refl s
ands_extends {s = s} (found m i j t n) = extends_refl s
ands_extends {s = s} (added {p} i j t n l) = extends_push s p
ands_extends {s = s} (full i j t n l) = extends_refl s

-- ---- what is stored is as it should be
pub record Kept (b : Window → Reply) (s : State) (p : Pair) : Type 0 where
  pub unlike : Unlike p.larger p.smaller
  pub said : b (window s p) ≡ store

abbrev SettledKept : (Window → Reply) → State → Settled → Type 0
SettledKept b s (Answered e) = Unit {0}
SettledKept b s (ToStore p) = Kept b s p

pub settles_kept : {b : Window → Reply} {s : State} {x y : Edge} {g : Settled} → Settles b s x y g → SettledKept b s g
settles_kept (trivially h) = tt
settles_kept (by_rule h r) = tt
settles_kept (again h r t) = settles_kept t
settles_kept (to_store {x} {y} u r) = record { unlike = of_pair x y Unlike u (unlike_turn u); said = r }

pub push_well : (b : Window → Reply) (s : State) → Well b s → (p : Pair) → Inside s p.larger → Inside s p.smaller → Kept b s p → Absent s p → Well b (push s p)
push_well b s well p h l kept absent = record {
  roomy = well.roomy;
  earlier = λ i q e. earlier i q (nth_push_cases s.pairs p q i e);
  once = λ i j q e f. once i j q (nth_push_cases s.pairs p q i e) (nth_push_cases s.pairs p q j f);
  unlike = λ i q e. apart i q (nth_push_cases s.pairs p q i e);
  irreducible = λ i q e. said i q (nth_push_cases s.pairs p q i e);
}
  where
    Old : ℕ → Pair → Type 0
    Old i q = (slice_get s.pairs i ≡ Some q) ⊎ ((i ≡ length s.pairs) × (p ≡ q))

    earlier : (i : ℕ) (q : Pair) → Old i q → (node q.larger < s.inputs + 1 + i) × (node q.smaller < s.inputs + 1 + i)
    earlier i q (inl o) = well.earlier i q o
    earlier i q (inr o) =
        let P : Pair → Type 0 = λ q. (node q.larger < s.inputs + 1 + i) × (node q.smaller < s.inputs + 1 + i) in
        let m = o.0 in subst P o.1 (omega arith, omega arith)

    apart : (i : ℕ) (q : Pair) → Old i q → Unlike q.larger q.smaller
    apart i q (inl o) = well.unlike i q o
    apart i q (inr o) = let P : Pair → Type 0 = λ q. Unlike q.larger q.smaller in subst P o.1 kept.unlike

    said : (i : ℕ) (q : Pair) → Old i q → b (window (push s p) q) ≡ store
    said i q (inl o) =
        let r = well.earlier i q o in
        let n = nth_within s.pairs i q o in
        ap b (window_extends s (push s p) q (extends_push s p) (omega arith) (omega arith)) ∙ well.irreducible i q o
    said i q (inr o) =
        let P : Pair → Type 0 = λ q. b (window (push s p) q) ≡ store in
        subst P o.1 (ap b (window_extends s (push s p) p (extends_push s p) h l) ∙ kept.said)

    once : (i j : ℕ) (q : Pair) → Old i q → Old j q → i ≡ j
    once i j q (inl o) (inl u) = well.once i j q o u
    once i j q (inl o) (inr u) = absurd (absent i (o ∙ ap Some (sym u.1)))
    once i j q (inr o) (inl u) = absurd (absent j (u ∙ ap Some (sym o.1)))
    once i j q (inr o) (inr u) = o.0 ∙ sym u.0

pub ands_well : {b : Window → Reply} {s t : State} {x y : Edge} {a : Result (Edge × Bool) Refusal} → Lawful b → Well b s → Ands b s x y a t → Well b t
ands_well lawful well (no_node h) = well
ands_well lawful well (answered i j t) = well
ands_well lawful well (found m i j t n) = well
ands_well {b} {s} lawful well (added {p} i j t n l) =
    let c = settles_inside b lawful s well t i j in push_well b s well p c.0 c.1 (settles_kept t) n
ands_well lawful well (full i j t n l) = well

-- ---- the same request again
abbrev pub Reached : State → Settled → Edge → Type 0
Reached u (Answered f) e = f ≡ e
Reached u (ToStore p) e = (i : ℕ) × (slice_get u.pairs i ≡ Some p) × (e ≡ plain (u.inputs + 1 + i))

pub record Known (b : Window → Reply) (u : State) (x y e : Edge) : Type 0 where
  pub inside_x : Inside u x
  pub inside_y : Inside u y
  pub goal : Settled
  pub settled : Settles b u x y goal
  pub reached : Reached u goal e

pub known_extends : {b : Window → Reply} → Lawful b → {s u : State} {x y e : Edge} → Well b s → Known b s x y e → Extends s u → Known b u x y e
known_extends {b} lawful {s} {u} {x} {y} {e} well c ext = record {
  inside_x = extends_inside s u x ext c.inside_x;
  inside_y = extends_inside s u y ext c.inside_y;
  goal = c.goal;
  settled = settles_extends b lawful s well u ext c.settled c.inside_x c.inside_y;
  reached = go c.goal c.reached;
}
  where
    go : (g : Settled) → Reached s g e → Reached u g e
    go (Answered f) r = r
    go (ToStore p) r = (
      r.0,
      ap (λ l. slice_get l r.0) ext.pairs ∙ nth_append_left s.pairs ext.more r.0 (nth_within s.pairs r.0 p r.1) ∙ r.1,
      r.2 ∙ ap (λ n. plain (n + 1 + r.0)) (sym ext.inputs),
    )

pub known_turn : {b : Window → Reply} {u : State} {x y e : Edge} → Known b u x y e → Known b u y x e
known_turn c = record { inside_x = c.inside_y; inside_y = c.inside_x; goal = c.goal; settled = settles_sym c.settled; reached = c.reached }

-- a known request gets its edge, and nothing is stored
pub known_ands : {b : Window → Reply} {u v : State} {x y e : Edge} {a : Result (Edge × Bool) Refusal} → Well b u → Known b u x y e → Ands b u x y a v → (a ≡ Ok (e, false)) × (v ≡ u)
known_ands well c (no_node h) = absurd (h c.inside_x c.inside_y)
known_ands {b} {u} {e = e} well c (answered {e = f} i j t) =
    let P : Settled → Type 0 = λ g. Reached u g e in
    let r : f ≡ e = subst P (settles_one c.goal (Answered f) c.settled t) c.reached in
    (ap (λ z. Ok (z, false)) r, refl)
known_ands {b} {u} {e = e} well c (found {p} m i j t n) =
    let P : Settled → Type 0 = λ g. Reached u g e in
    let r : Reached u (ToStore p) e = subst P (settles_one c.goal (ToStore p) c.settled t) c.reached in
    (ap (λ z. Ok (plain (u.inputs + 1 + z), false)) (well.once m r.0 p n r.1) ∙ ap (λ z. Ok (z, false)) (sym r.2), refl)
known_ands {b} {u} {e = e} well c (added {p} i j t n l) =
    let P : Settled → Type 0 = λ g. Reached u g e in
    let r : Reached u (ToStore p) e = subst P (settles_one c.goal (ToStore p) c.settled t) c.reached in
    absurd (n r.0 r.1)
known_ands {b} {u} {e = e} well c (full {p} i j t n l) =
    let P : Settled → Type 0 = λ g. Reached u g e in
    let r : Reached u (ToStore p) e = subst P (settles_one c.goal (ToStore p) c.settled t) c.reached in
    absurd (n r.0 r.1)

-- ---- what an answer tells
pub ands_known : {b : Window → Reply} {s t : State} {x y : Edge} {a : Result (Edge × Bool) Refusal} → Lawful b → Well b s → Ands b s x y a t → On a (λ e _. Known b t x y e)
ands_known lawful well (no_node h) = tt
ands_known lawful well (answered {e} i j t) = record { inside_x = i; inside_y = j; goal = Answered e; settled = t; reached = refl }
ands_known lawful well (found {p} m i j t n) = record { inside_x = i; inside_y = j; goal = ToStore p; settled = t; reached = (m, n, refl) }
ands_known {b} {s} {x = x} {y = y} lawful well (added {p} i j t n l) = record {
  inside_x = extends_inside s (push s p) x (extends_push s p) i;
  inside_y = extends_inside s (push s p) y (extends_push s p) j;
  goal = ToStore p;
  settled = settles_extends b lawful s well (push s p) (extends_push s p) t i j;
  reached = (length s.pairs, nth_at s.pairs p [], refl);
}
ands_known lawful well (full i j t n l) = tt

-- ---- what a known request means
node-plain : (n : ℕ) → node (plain n) ≡ n
node-plain n = omega arith

pub known_inside : {b : Window → Reply} {u : State} {x y e : Edge} → Lawful b → Well b u → Known b u x y e → Inside u e
known_inside {b} {u} {x} {y} {e} lawful well c = go c.goal c.reached (settles_inside b lawful u well c.settled c.inside_x c.inside_y)
  where
    go : (g : Settled) → Reached u g e → SettledInside u g → Inside u e
    go (Answered f) r i = let P : Edge → Type 0 = Inside u in subst P r i
    go (ToStore p) r i =
        let n = nth_within u.pairs r.0 p r.1 in
        let P : Edge → Type 0 = Inside u in subst P (sym r.2) (omega arith)

pub known_means : {V : Type 0} (k : BooleanAlgebra V) (ρ : ℕ → V) {b : Window → Reply} {u : State} {x y e : Edge} → Lawful b → Well b u → Known b u x y e → meaning k ρ u e ≡ k.and (meaning k ρ u x) (meaning k ρ u y)
known_means {V} k ρ {b} {u} {x} {y} {e} lawful well c = go c.goal c.reached (settles_means k ρ b lawful u well c.settled)
  where
    go : (g : Settled) → Reached u g e → SettledMeans k ρ b lawful u well g ≡ k.and (meaning k ρ u x) (meaning k ρ u y) → meaning k ρ u e ≡ k.and (meaning k ρ u x) (meaning k ρ u y)
    go (Answered f) r m = ap (meaning k ρ u) (sym r) ∙ m
    go (ToStore p) r m =
        ap (meaning k ρ u) r.2
        ∙ means_plain k (at k (node_values k ρ u)) (plain (u.inputs + 1 + r.0)) (omega arith)
        ∙ ap (at k (node_values k ρ u)) (node-plain (u.inputs + 1 + r.0))
        ∙ node_value k ρ b lawful u well r.0 p r.1
        ∙ m

-- a pair is stored exactly where the flag says so
pub ands_counts : {b : Window → Reply} {s t : State} {x y : Edge} {a : Result (Edge × Bool) Refusal} → Ands b s x y a t → On a (λ _ n. length t.pairs ≡ length s.pairs + cond n 1 0)
ands_counts (no_node h) = tt
ands_counts (answered i j t) = omega arith
ands_counts (found m i j t n) = omega arith
ands_counts (added i j t n l) = simp length_push
ands_counts (full i j t n l) = tt

pub ands_inside : {b : Window → Reply} {s t : State} {x y : Edge} {a : Result (Edge × Bool) Refusal} → Ands b s x y a t → On a (λ _ _. Inside s x × Inside s y)
ands_inside (no_node h) = tt
ands_inside (answered i j t) = (i, j)
ands_inside (found m i j t n) = (i, j)
ands_inside (added i j t n l) = (i, j)
ands_inside (full i j t n l) = tt

-- an answered AND means the AND of what its edges meant before
pub ands_means : {V : Type 0} (k : BooleanAlgebra V) (ρ : ℕ → V) {b : Window → Reply} {s t : State} {x y e : Edge} {n : Bool} → Lawful b → Well b s → Ands b s x y (Ok (e, n)) t → meaning k ρ t e ≡ k.and (meaning k ρ s x) (meaning k ρ s y)
ands_means k ρ {b} {s} {t} {x} {y} {e} lawful well r =
    let ext = ands_extends r in
    let i = ands_inside r in
    known_means k ρ lawful (ands_well lawful well r) (ands_known lawful well r)
    ∙ ap (λ v. k.and v (meaning k ρ t y)) (meaning_extends k ρ s t x ext i.0)
    ∙ ap (k.and (meaning k ρ s x)) (meaning_extends k ρ s t y ext i.1)

-- a refused AND leaves the graph as it was
pub ands_refused : {b : Window → Reply} {s t : State} {x y : Edge} {c : Refusal} → Ands b s x y (Err c) t → t ≡ s
ands_refused (no_node h) = refl
ands_refused (full i j t n l) = refl

-- a graph that stores nothing
pub empty_well : (b : Window → Reply) (s : State) → s.pairs ≡ [] → 2 * (s.limit + s.inputs) + 1 ≤ s.max_edge → Well b s
empty_well b s h r = record {
  roomy = r;
  earlier = λ i p e. absurd (none i p e);
  once = λ i j p e f. absurd (none i p e);
  unlike = λ i p e. absurd (none i p e);
  irreducible = λ i p e. absurd (none i p e);
}
  where
    none : (i : ℕ) (p : Pair) → slice_get s.pairs i ≡ Some p → ⊥
    none i p e = let f : ◌≡◌ {A = Option Pair} None (Some p) = ap (λ l. slice_get l i) (sym h) ∙ e in let z : ◌≡◌ {A = ℕ} 0 1 = cc in omega arith
