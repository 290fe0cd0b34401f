-- The operations made of AND requests: what they mean, what they keep, and the same operation again.
use Rattle.std.proofs.Common.{◌≡◌, ℕ, ◌+◌, Bool, ◌⊎◌, length, Ok, Err, Result, sym, refl, ap, ◌∙◌, subst, inl, inr, arith}
use Rattle.values.specs.Algebra.{BooleanAlgebra, equiv}
use Rattle.values.proofs.Derived.{implies_node, equiv_nodes}
use Rattle.rules.specs.declared.edge.Edge.{Edge}
use Rattle.rules.specs.declared.window.Window.{Window}
use Rattle.rules.specs.declared.window.Reply.{Reply}
use Rattle.rules.specs.Edges.{complement}
use Rattle.rules.specs.Lawful.{Lawful}
use Rattle.rules.proofs.Edged.{node-complement}
use Rattle.rules.proofs.Meanings.{means-complement}
use Rattle.graph_model.specs.declared.operation.Operation.{Operation}
use Rattle.graph_model.specs.declared.operation.Operation.TheVariants.{Or, Implies, Equiv, Xor}
use Rattle.graph_model.specs.declared.refusal.Refusal.{Refusal}
use Rattle.graph_model.specs.declared.refusal.Refusal.TheVariants.{Full, NoNode}
use Rattle.graph_model.specs.Graphs.{State, Inside, at, node_values, meaning}
use Rattle.graph_model.specs.Requests.{and_of}
use Rattle.graph_model.specs.Settling.{Ands, no_node, full}
use Rattle.graph_model.specs.WellFormed.{Well, Extends}
use Rattle.graph_model.specs.Operations.{Symmetric, or_symmetric, equiv_symmetric, xor_symmetric, function, Applied, counted, turned, chained, nand_of, equiv_of, apply_of}
use Rattle.graph_model.proofs.Requests.{extends_refl, extends_trans, extends_inside, meaning_extends, and_ands, ands_extends, ands_well, ands_known, ands_counts, ands_inside, Known, known_extends, known_turn, known_ands, known_inside, known_means}

-- ---- an operation whose AND steps are all known leads to its edge
pub record NandKnown (b : Window → Reply) (s : State) (x y e : Edge) : Type 0 where
  pub anded : Edge
  pub known : Known b s x y anded
  pub flipped : e ≡ complement anded

pub record EquivKnown (b : Window → Reply) (s : State) (x y e : Edge) : Type 0 where
  pub first : Edge
  pub second : Edge
  pub known_first : NandKnown b s x (complement y) first
  pub known_second : NandKnown b s (complement x) y second
  pub known : Known b s first second e

pub record XorKnown (b : Window → Reply) (s : State) (x y e : Edge) : Type 0 where
  pub same : Edge
  pub known : EquivKnown b s x y same
  pub flipped : e ≡ complement same

abbrev pub AppliedKnown : (Window → Reply) → State → Operation → Edge → Edge → Edge → Type 0
AppliedKnown b s Or x y e = NandKnown b s (complement x) (complement y) e
AppliedKnown b s Implies x y e = NandKnown b s x (complement y) e
AppliedKnown b s Equiv x y e = EquivKnown b s x y e
AppliedKnown b s Xor x y e = XorKnown b s x y e

flip_inside : (s : State) (e : Edge) → Inside s e → Inside s (complement e)
flip_inside s e i = rw (node-complement e) i

flip_back : (s : State) (e : Edge) → Inside s (complement e) → Inside s e
flip_back s e i = let n = node-complement e in rw n at i

-- ---- whatever is stored later
nand_extends : {b : Window → Reply} → Lawful b → {s t : State} {x y e : Edge} → Well b s → NandKnown b s x y e → Extends s t → NandKnown b t x y e
nand_extends lawful well c ext = record { anded = c.anded; known = known_extends lawful well c.known ext; flipped = c.flipped }

equiv_extends : {b : Window → Reply} → Lawful b → {s t : State} {x y e : Edge} → Well b s → EquivKnown b s x y e → Extends s t → EquivKnown b t x y e
equiv_extends lawful well c ext = record {
  first = c.first;
  second = c.second;
  known_first = nand_extends lawful well c.known_first ext;
  known_second = nand_extends lawful well c.known_second ext;
  known = known_extends lawful well c.known ext;
}

pub applied_extends : {b : Window → Reply} → Lawful b → {s t : State} (op : Operation) (x y e : Edge) → Well b s → AppliedKnown b s op x y e → Extends s t → AppliedKnown b t op x y e
applied_extends lawful Or x y e well c ext = nand_extends lawful well c ext
applied_extends lawful Implies x y e well c ext = nand_extends lawful well c ext
applied_extends lawful Equiv x y e well c ext = equiv_extends lawful well c ext
applied_extends lawful Xor x y e well c ext = record { same = c.same; known = equiv_extends lawful well c.known ext; flipped = c.flipped }

-- ---- either order
nand_turn : {b : Window → Reply} {s : State} {x y e : Edge} → NandKnown b s x y e → NandKnown b s y x e
nand_turn c = record { anded = c.anded; known = known_turn c.known; flipped = c.flipped }

equiv_turn : {b : Window → Reply} {s : State} {x y e : Edge} → EquivKnown b s x y e → EquivKnown b s y x e
equiv_turn c = record { first = c.second; second = c.first; known_first = nand_turn c.known_second; known_second = nand_turn c.known_first; known = known_turn c.known }

pub applied_turn : (b : Window → Reply) (s : State) {op : Operation} (x y e : Edge) → Symmetric op → AppliedKnown b s op x y e → AppliedKnown b s op y x e
applied_turn b s x y e or_symmetric c = nand_turn c
applied_turn b s x y e equiv_symmetric c = equiv_turn c
applied_turn b s x y e xor_symmetric c = record { same = c.same; known = equiv_turn c.known; flipped = c.flipped }

-- ---- in a well-formed graph
module _ (b : Window → Reply) (lawful : Lawful b) (s : State) (well : Well b s) where
  flipped_inside : (e a : Edge) → e ≡ complement a → Inside s a → Inside s e
  flipped_inside e a q i = let P : Edge → Type 0 = Inside s in subst P (sym q) (flip_inside s a i)

  nand_inside : {x y e : Edge} → NandKnown b s x y e → Inside s e
  nand_inside {e = e} c = flipped_inside e c.anded c.flipped (known_inside lawful well c.known)

  pub applied_inside : (op : Operation) (x y e : Edge) → AppliedKnown b s op x y e → Inside s e
  applied_inside Or x y e c = nand_inside c
  applied_inside Implies x y e c = nand_inside c
  applied_inside Equiv x y e c = known_inside lawful well c.known
  applied_inside Xor x y e c = flipped_inside e c.same c.flipped (known_inside lawful well c.known.known)

  -- ---- what it means
  module _ {V : Type 0} (k : BooleanAlgebra V) (ρ : ℕ → V) where
    flipped_means : (e a : Edge) → e ≡ complement a → meaning k ρ s e ≡ k.not (meaning k ρ s a)
    flipped_means e a q = ap (meaning k ρ s) q ∙ means-complement k (at k (node_values k ρ s)) a

    nand_means : (x y e : Edge) (v w : V) → NandKnown b s x y e → meaning k ρ s x ≡ v → meaning k ρ s y ≡ w → meaning k ρ s e ≡ k.not (k.and v w)
    nand_means x y e v w c f g =
        flipped_means e c.anded c.flipped
        ∙ ap k.not (known_means k ρ lawful well c.known ∙ ap (λ z. k.and z (meaning k ρ s y)) f ∙ ap (k.and v) g)

    equiv_means : (x y e : Edge) → EquivKnown b s x y e → meaning k ρ s e ≡ equiv k (meaning k ρ s x) (meaning k ρ s y)
    equiv_means x y e c =
        let X : V = meaning k ρ s x in
        let Y : V = meaning k ρ s y in
        let p = nand_means x (complement y) c.first X (k.not Y) c.known_first refl (flipped_means (complement y) y refl) in
        let q = nand_means (complement x) y c.second (k.not X) Y c.known_second (flipped_means (complement x) x refl) refl in
        known_means k ρ lawful well c.known
        ∙ ap (λ z. k.and z (meaning k ρ s c.second)) p
        ∙ ap (k.and (k.not (k.and X (k.not Y)))) q
        ∙ equiv_nodes k X Y

    pub applied_means : (op : Operation) (x y e : Edge) → AppliedKnown b s op x y e → meaning k ρ s e ≡ function k op (meaning k ρ s x) (meaning k ρ s y)
    applied_means Or x y e c = nand_means (complement x) (complement y) e _ _ c (flipped_means (complement x) x refl) (flipped_means (complement y) y refl)
    applied_means Implies x y e c = nand_means x (complement y) e _ _ c refl (flipped_means (complement y) y refl) ∙ implies_node k _ _
    applied_means Equiv x y e c = equiv_means x y e c
    applied_means Xor x y e c = flipped_means e c.same c.flipped ∙ ap k.not (equiv_means x y c.same c.known)

  -- ---- the same operation again
  abbrev Again : Applied → Edge → Type 0
  Again r e = (r.answer ≡ Ok (e, 0)) × (r.after ≡ s)

  nand_again : (x y e : Edge) → NandKnown b s x y e → Again (nand_of b s x y) e
  unfolding nand_of
  nand_again x y e c =
      let a = known_ands well c.known (and_ands b lawful s well x y) in
      (ap (λ z. turned (counted z)) a.0 ∙ ap (λ z. Ok (z, 0)) (sym c.flipped), a.1)

  chained_on : (a : Result (Edge × ℕ) Refusal) (t u : State) (e : Edge) (n : ℕ) (next : Edge → ℕ → State → Applied) → a ≡ Ok (e, n) → t ≡ u → chained a t next ≡ next e n u
  chained_on a t u e n next p q = ap (λ z. chained z t next) p ∙ ap (next e n) q

  equiv_again : (x y e : Edge) → EquivKnown b s x y e → Again (equiv_of b s x y) e
  unfolding equiv_of
  equiv_again x y e c =
      let first = nand_again x (complement y) c.first c.known_first in
      let second = nand_again (complement x) y c.second c.known_second in
      let third = known_ands well c.known (and_ands b lawful s well c.first c.second) in
      let all : equiv_of b s x y ≡ record { answer = Ok (e, 0); after = s } =
      chained_on _ _ s c.first 0 _ first.0 first.1
      ∙ chained_on _ _ s c.second 0 _ second.0 second.1
      ∙ chained_on _ _ s e 0 _ (ap counted third.0) third.1 in
      (ap (λ (r : Applied). r.answer) all, ap (λ (r : Applied). r.after) all)

  pub applied_again : (op : Operation) (x y e : Edge) → AppliedKnown b s op x y e → ((apply_of b s op x y).answer ≡ Ok (e, 0)) × ((apply_of b s op x y).after ≡ s)
  unfolding apply_of
  applied_again Or x y e c = nand_again (complement x) (complement y) e c
  applied_again Implies x y e c = nand_again x (complement y) e c
  applied_again Equiv x y e c = equiv_again x y e c
  applied_again Xor x y e c =
      let a = equiv_again x y c.same c.known in
      (ap turned a.0 ∙ ap (λ z. Ok (z, 0)) (sym c.flipped), a.1)

-- ---- an operation by its cases
-- I says that the operands are in the graph, and K what is known of the edge and the number answered
pub data Steps (b : Window → Reply) (s : State) (I : Type 0) (K : State → Edge → ℕ → Type 0) : Result (Edge × ℕ) Refusal → State → Type 0 where
  done : {e : Edge} {n : ℕ} {t : State} → I → Extends s t → Well b t → K t e n → Steps b s I K (Ok (e, n)) t
  outside : (I → ⊥) → Steps b s I K (Err NoNode) s
  no_room : {t : State} → I → Extends s t → Well b t → Steps b s I K (Err Full) t

-- both edges are in the graph
abbrev pub Both : State → Edge → Edge → Type 0
Both s x y = Inside s x × Inside s y

-- so many pairs were stored since s
abbrev pub Stored : State → State → ℕ → Type 0
Stored s t n = length t.pairs ≡ length s.pairs + n

abbrev pub Applies : (Window → Reply) → State → Operation → Edge → Edge → Result (Edge × ℕ) Refusal → State → Type 0
Applies b s op x y = Steps b s (Both s x y) (λ t e n. AppliedKnown b t op x y e × Stored s t n)

steps_map : {b : Window → Reply} {s t : State} {I J : Type 0} {K L : State → Edge → ℕ → Type 0} {a : Result (Edge × ℕ) Refusal} → (I → J) → (J → I) → ((u : State) (e : Edge) (n : ℕ) → K u e n → L u e n) → Steps b s I K a t → Steps b s J L a t
steps_map f g h (done {e} {n} {t} i x w k) = done (f i) x w (h t e n k)
steps_map f g h (outside o) = outside (λ j. o (g j))
steps_map f g h (no_room i x w) = no_room (f i) x w

steps_turned : {b : Window → Reply} {s t : State} {I : Type 0} {K L : State → Edge → ℕ → Type 0} {a : Result (Edge × ℕ) Refusal} → ((u : State) (e : Edge) (n : ℕ) → K u e n → L u (complement e) n) → Steps b s I K a t → Steps b s I L (turned a) t
steps_turned h (done {e} {n} {t} i x w k) = done i x w (h t e n k)
steps_turned h (outside o) = outside o
steps_turned h (no_room i x w) = no_room i x w

steps_later : {b : Window → Reply} {s t u : State} {I J : Type 0} {L : State → Edge → ℕ → Type 0} {a : Result (Edge × ℕ) Refusal} → I → J → Extends s t → Steps b t J L a u → Steps b s I L a u
steps_later {s = s} {t = t} i j ext (done {t = u} j' x w k) = done i (extends_trans s t u ext x) w k
steps_later i j ext (outside o) = absurd (o j)
steps_later {s = s} {t = t} i j ext (no_room {t = u} j' x w) = no_room i (extends_trans s t u ext x) w

abbrev Continues : (Window → Reply) → State → Type 0 → (State → Edge → ℕ → Type 0) → (State → Edge → ℕ → Type 0) → (Edge → ℕ → State → Applied) → Type 1
Continues b s I K L next = (e : Edge) (n : ℕ) (t : State) → I → Extends s t → Well b t → K t e n → (J : Type 0) × J × Steps b t J L (next e n t).answer (next e n t).after

steps_chained : {b : Window → Reply} {s t : State} {I : Type 0} {K L : State → Edge → ℕ → Type 0} {a : Result (Edge × ℕ) Refusal} (next : Edge → ℕ → State → Applied) → Continues b s I K L next → Steps b s I K a t → Steps b s I L (chained a t next).answer (chained a t next).after
steps_chained next f (done {e} {n} {t} i x w k) = let g = f e n t i x w k in steps_later i g.1 x g.2
steps_chained next f (outside o) = outside o
steps_chained next f (no_room i x w) = no_room i x w

module _ (b : Window → Reply) (lawful : Lawful b) where
  and_steps : (s : State) → Well b s → (x y : Edge) → Steps b s (Both s x y) (λ t e n. Known b t x y e × Stored s t n) (counted (and_of b s x y).answer) (and_of b s x y).after
  and_steps s well x y = go (and_of b s x y).answer (and_of b s x y).after (and_ands b lawful s well x y)
    where
      refused : (c : Refusal) (t : State) → Ands b s x y (Err c) t → Steps b s (Both s x y) (λ t e n. Known b t x y e × Stored s t n) (Err c) t
      refused c t (no_node h) = outside (λ i. h i.0 i.1)
      refused c t (full i j g n l) = no_room (i, j) (extends_refl s) well

      go : (a : Result (Edge × Bool) Refusal) (t : State) → Ands b s x y a t → Steps b s (Both s x y) (λ t e n. Known b t x y e × Stored s t n) (counted a) t
      go (Ok a) t r = done (ands_inside r) (ands_extends r) (ands_well lawful well r) (ands_known lawful well r, ands_counts r)
      go (Err c) t r = refused c t r

  nand_steps : (s : State) → Well b s → (x y : Edge) → Steps b s (Both s x y) (λ t e n. NandKnown b t x y e × Stored s t n) (nand_of b s x y).answer (nand_of b s x y).after
  unfolding nand_of
  nand_steps s well x y = steps_turned (λ t e n c. (record { anded = e; known = c.0; flipped = refl }, c.1)) (and_steps s well x y)

  equiv_steps : (s : State) → Well b s → (x y : Edge) → Steps b s (Both s x y) (λ t e n. EquivKnown b t x y e × Stored s t n) (equiv_of b s x y).answer (equiv_of b s x y).after
  unfolding equiv_of
  equiv_steps s well x y =
      steps_chained _ (λ p l t i st wt kp.
      let j : Both t (complement x) y = (flip_inside t x (extends_inside s t x st i.0), extends_inside s t y st i.1) in (
        Both t (complement x) y,
        j,
        steps_chained _ (λ q m u j' tu wu kq.
            let known_p = nand_extends lawful wt kp.0 tu in
            let h : Both u p q = (nand_inside b lawful u wu known_p, nand_inside b lawful u wu kq.0) in (
              Both u p q,
              h,
              steps_chained _ (λ e n v h' uv wv ke. (
                Unit {0},
                tt,
                done tt (extends_refl v) wv (
                  record {
                    first = p;
                    second = q;
                    known_first = nand_extends lawful wu known_p uv;
                    known_second = nand_extends lawful wu kq.0 uv;
                    known = ke.0;
                  },
                  omega (arith, kp.1, kq.1, ke.1),
                ),
              )) (and_steps u wu p q),
            )) (nand_steps t wt (complement x) y),
      ))
      (steps_map (λ i. (i.0, flip_back s y i.1)) (λ i. (i.0, flip_inside s y i.1)) (λ u e n c. c) (nand_steps s well x (complement y)))

  pub applies : (s : State) → Well b s → (op : Operation) (x y : Edge) → Applies b s op x y (apply_of b s op x y).answer (apply_of b s op x y).after
  unfolding apply_of
  applies s well Or x y =
      steps_map (λ i. (flip_back s x i.0, flip_back s y i.1)) (λ i. (flip_inside s x i.0, flip_inside s y i.1)) (λ u e n c. c) (nand_steps s well (complement x) (complement y))
  applies s well Implies x y =
      steps_map (λ i. (i.0, flip_back s y i.1)) (λ i. (i.0, flip_inside s y i.1)) (λ u e n c. c) (nand_steps s well x (complement y))
  applies s well Equiv x y = equiv_steps s well x y
  applies s well Xor x y = steps_turned (λ t e n c. (record { same = e; known = c.0; flipped = refl }, c.1)) (equiv_steps s well x y)

-- ---- what the cases have in common
steps_extends : {b : Window → Reply} {s t : State} {I : Type 0} {K : State → Edge → ℕ → Type 0} {a : Result (Edge × ℕ) Refusal} → Steps b s I K a t → Extends s t
steps_extends (done i ext w k) = ext
steps_extends {s = s} (outside o) = extends_refl s
steps_extends (no_room i ext w) = ext

steps_well : {b : Window → Reply} {s t : State} {I : Type 0} {K : State → Edge → ℕ → Type 0} {a : Result (Edge × ℕ) Refusal} → Well b s → Steps b s I K a t → Well b t
steps_well well (done i ext w k) = w
steps_well well (outside o) = well
steps_well well (no_room i ext w) = w

steps_done : {b : Window → Reply} {s t : State} {I : Type 0} {K : State → Edge → ℕ → Type 0} {e : Edge} {n : ℕ} → Steps b s I K (Ok (e, n)) t → I × K t e n
steps_done (done i ext w k) = (i, k)

steps_outside : {b : Window → Reply} {s t : State} {I : Type 0} {K : State → Edge → ℕ → Type 0} → Steps b s I K (Err NoNode) t → (I → ⊥) × (t ≡ s)
steps_outside (outside o) = (o, refl)

steps_refused : {b : Window → Reply} {s t : State} {I : Type 0} {K : State → Edge → ℕ → Type 0} {c : Refusal} → Steps b s I K (Err c) t → (c ≡ NoNode) ⊎ ((c ≡ Full) × I)
steps_refused (outside o) = inl refl
steps_refused (no_room i ext w) = inr (refl, i)

module _ (b : Window → Reply) (lawful : Lawful b) (s : State) (well : Well b s) (op : Operation) (x y : Edge) where
  pub apply_extends : Extends s (apply_of b s op x y).after
  apply_extends = steps_extends (applies b lawful s well op x y)

  pub apply_well : Well b (apply_of b s op x y).after
  apply_well = steps_well well (applies b lawful s well op x y)

  -- the operation by its cases, where its answer is named
  applies_as : (a : Result (Edge × ℕ) Refusal) → (apply_of b s op x y).answer ≡ a → Applies b s op x y a (apply_of b s op x y).after
  applies_as a h = let P : Result (Edge × ℕ) Refusal → Type 0 = λ z. Applies b s op x y z (apply_of b s op x y).after in subst P h (applies b lawful s well op x y)

  pub apply_no_node : (apply_of b s op x y).answer ≡ Err NoNode → (Both s x y → ⊥) × ((apply_of b s op x y).after ≡ s)
  apply_no_node h = steps_outside (applies_as (Err NoNode) h)

  -- any other refusal is 11
  pub apply_refused : (c : Refusal) → (apply_of b s op x y).answer ≡ Err c → (c ≡ NoNode) ⊎ ((c ≡ Full) × Both s x y)
  apply_refused c h = steps_refused (applies_as (Err c) h)

  module _ (e : Edge) (n : ℕ) (h : (apply_of b s op x y).answer ≡ Ok (e, n)) where
    pub apply_known : AppliedKnown b (apply_of b s op x y).after op x y e
    apply_known = (steps_done (applies_as (Ok (e, n)) h)).1.0

    pub apply_counts : length (apply_of b s op x y).after.pairs ≡ length s.pairs + n
    apply_counts = (steps_done (applies_as (Ok (e, n)) h)).1.1

    pub apply_inside : Inside (apply_of b s op x y).after e
    apply_inside = applied_inside b lawful (apply_of b s op x y).after apply_well op x y e apply_known

    -- the edge means the function requested of what the operands meant before
    pub apply_means : {V : Type 0} (k : BooleanAlgebra V) (ρ : ℕ → V) → meaning k ρ (apply_of b s op x y).after e ≡ function k op (meaning k ρ s x) (meaning k ρ s y)
    apply_means k ρ =
        let t = (apply_of b s op x y).after in
        let i : Both s x y = (steps_done (applies_as (Ok (e, n)) h)).0 in
        applied_means b lawful t apply_well k ρ op x y e apply_known
        ∙ ap (λ v. function k op v (meaning k ρ t y)) (meaning_extends k ρ s t x apply_extends i.0)
        ∙ ap (function k op (meaning k ρ s x)) (meaning_extends k ρ s t y apply_extends i.1)
