-- After the requests each place means what the file says.
use Rattle.std.proofs.Common.{◌≡◌, ℕ, suc, ◌+◌, ◌*◌, ◌/◌, ◌%◌, ◌<◌, ◌≤◌, Bool, true, false, cond, eqb, ◌⊎◌, List, [], ◌∷◌, ◌++◌, length, get_or, set, Ok, Err, Result, sym, refl, ap, ◌∙◌, subst, inl, inr, ⊎_elim, append_assoc, append-nil, arith, length-append, length-set, get_or-set_other, get_or-set_same}
use Rattle.std.proofs.lemmas.List.FromFn.{length-map-range_with_len, get_or-map-range_with_len}
use Rattle.std.proofs.lemmas.Bool.{cases_eq}
use Rattle.std.proofs.lemmas.List.{get_or_at, length_push}
use Rattle.values.specs.Algebra.{BooleanAlgebra}
use Rattle.rules.specs.declared.edge.Edge.{Edge}
use Rattle.rules.specs.declared.window.Window.{Window}
use Rattle.rules.specs.declared.window.Reply.{Reply}
use Rattle.rules.specs.Edges.{edge, false_edge, node, complement}
use Rattle.rules.specs.Lawful.{Lawful}
use Rattle.rules.proofs.Edged.{node-complement}
use Rattle.rules.proofs.Meanings.{means-complement}
use Rattle.graph_model.specs.declared.refusal.Refusal.{Refusal}
use Rattle.graph_model.specs.Graphs.{State, nodes, Inside, at, node_values, roots, meaning}
use Rattle.graph_model.specs.Requests.{and_of}
use Rattle.graph_model.specs.Settling.{Ands, no_node, full}
use Rattle.graph_model.specs.WellFormed.{Well, Extends}
use Rattle.graph_model.proofs.Meanings.{means_plain, grown_keeps}
use Rattle.graph_model.proofs.Requests.{extends_refl, extends_trans, extends_inside, zeroth, meaning_extends, and_ands, ands_extends, ands_well, ands_known, ands_counts, ands_means, known_inside}
use Rattle.aiger_lines.specs.declared.fields.Header.{Header}
use Rattle.aiger_check.specs.Circuits.{Item, input, output, gate, Defines, Defined, Good, nothing}
use Rattle.aiger_check.proofs.Goods.{Goods}
use Rattle.aiger_read.specs.Requests.{through, Outcome, done, stopped, run}
use Rattle.aiger_read.specs.Meaning.{lit, Agrees, Satisfies, Stands, Right}

pub defined_push : (is : List Item) (i : Item) (x : ℕ) → Defined (is ++ (i ∷ [])) x → Defined is x ⊎ Defines i x
defined_push [] i x (inl d) = inr d
defined_push [] i x (inr z) = inl z
defined_push (j ∷ is) i x (inl d) = inl (inl d)
defined_push (j ∷ is) i x (inr d) = ⊎_elim (λ e. inl (inr e)) (λ e. inr e) (defined_push is i x d)

pub defined_old : (is : List Item) (i : Item) (x : ℕ) → Defined is x → Defined (is ++ (i ∷ [])) x
defined_old [] i x z = inr z
defined_old (j ∷ is) i x (inl d) = inl d
defined_old (j ∷ is) i x (inr d) = inr (defined_old is i x d)

pub defined_last : (is : List Item) (i : Item) (x : ℕ) → Defines i x → Defined (is ++ (i ∷ [])) x
defined_last [] i x d = inl d
defined_last (j ∷ is) i x d = inr (defined_last is i x d)

-- the places of the inputs from number n on hold their edges
abbrev pub Inputs : ℕ → List Item → List Edge → Type 0
Inputs n [] m = Unit {0}
Inputs n (input v ∷ is) m = (get_or m (v / 2) false_edge ≡ edge (2 * (n + 1))) × Inputs (n + 1) is m
Inputs n (output v ∷ is) m = Inputs (n + 1) is m
Inputs n (gate a b c ∷ is) m = Inputs (n + 1) is m

-- after the inputs there are none
no_inputs : (h : Header) (n : ℕ) (before is : List Item) (m m' : List Edge) → h.inputs ≤ n → Goods h n before is → Inputs n is m → Inputs n is m'
no_inputs h n before [] m m' l g p = tt
no_inputs h n before (input v ∷ is) m m' l g p = absurd (omega (arith, g.1))
no_inputs h n before (output v ∷ is) m m' l g p = no_inputs h (n + 1) (before ++ (output v ∷ [])) is m m' (omega arith) g.2 p
no_inputs h n before (gate a b c ∷ is) m m' l g p = no_inputs h (n + 1) (before ++ (gate a b c ∷ [])) is m m' (omega arith) g.2 p

-- a request on edges of the graph is refused only where the graph is full
refused_full : {b : Window → Reply} {s t : State} {x y : Edge} {c : Refusal} → Ands b s x y (Err c) t → Inside s x → Inside s y → t.limit ≤ length t.pairs
refused_full (no_node h) x y = absurd (h x y)
refused_full (full p q r a l) x y = l

module _ {V : Type 0} (k : BooleanAlgebra V) where
  pub constant_means : (s : State) (ρ : ℕ → V) → meaning k ρ s false_edge ≡ k.bottom
  constant_means s ρ = means_plain k (at k (node_values k ρ s)) false_edge (omega arith) ∙ (let e : node false_edge ≡ 0 = omega arith in ap (at k (node_values k ρ s)) e) ∙ zeroth k ρ s

  input_means : (s : State) (j : ℕ) (ρ : ℕ → V) → j < s.inputs → meaning k ρ s (edge (2 * (j + 1))) ≡ ρ (j + 1)
  unfolding at
  input_means s j ρ l =
      let e : node (edge (2 * (j + 1))) ≡ suc j = omega arith in
      means_plain k (at k (node_values k ρ s)) (edge (2 * (j + 1))) (omega arith)
      ∙ ap (at k (node_values k ρ s)) e
      ∙ grown_keeps k (roots k ρ s.inputs) s.pairs (suc j) (omega (arith, length-map-range_with_len ρ 1 s.inputs))
      ∙ get_or-map-range_with_len ρ 1 s.inputs j (j + 1) k.bottom l (omega arith)

  -- what an edge stood for before more was stored, it still stands for
  pub stands_later : (is : List Item) (s t : State) (e : Edge) (v : (ℕ → V) → V) → Extends s t → Stands k is s e v → Stands k is t e v
  stands_later is s t e v x st = (extends_inside s t e x st.0, λ ρ w sat. meaning_extends k ρ s t e x st.0 ∙ st.1 ρ w sat)

  module _ (b : Window → Reply) (lawful : Lawful b) (h : Header) (all : List Item) where
    -- a literal means the same through the map
    pub through_right : (before : List Item) (s : State) (m : List Edge) (l : ℕ) → Right k all before s m → Defined before (l / 2) → Stands k all s (through m l) (λ w. lit k w l)
    through_right before s m l r d = go (eqb (l % 2) 0)
      where
        e : Edge
        e = get_or m (l / 2) false_edge

        go : (t : Bool) → Stands k all s (cond t e (complement e)) (λ w. cond t (w (l / 2)) (k.not (w (l / 2))))
        go true = r (l / 2) d
        go false = (subst (λ n. n < nodes s) (sym (node-complement e)) (r (l / 2) d).0, λ ρ w sat. means-complement k (at k (node_values k ρ s)) e ∙ ap k.not ((r (l / 2) d).1 ρ w sat))

    agrees : (before : List Item) (i : Item) (is : List Item) → all ≡ before ++ (i ∷ is) → (ρ w : ℕ → V) → Satisfies k all ρ w → Agrees k ρ w (length before) i
    agrees before i is whole ρ w sat =
        let here : get_or all (length before) nothing ≡ i = ap (λ xs. get_or xs (length before) nothing) whole ∙ get_or_at before i is nothing (length before) refl in
        let long : length before < length all = omega (arith, ap length whole, length-append before (i ∷ is)) in
        subst (Agrees k ρ w (length before)) here (sat.each (length before) long)

    -- the same of what the whole file stands for
    stands_on : (s t : State) (e : Edge) (v : (ℕ → V) → V) → Extends s t → Stands k all s e v → Stands k all t e v
    stands_on = stands_later all

    step_gate : (before : List Item) (a y z : ℕ) (is : List Item) (s t : State) (m : List Edge) (e : Edge) (new : Bool) → all ≡ before ++ (gate a y z ∷ is) → Good h.max (Defined before) (gate a y z) → h.max < length m → Well b s → Right k all before s m → Ands b s (through m y) (through m z) (Ok (e, new)) t → Right k all (before ++ (gate a y z ∷ [])) t (set m (a / 2) e)
    step_gate before a y z is s t m e new whole g room well r ands x d =
        ⊎_elim
        (λ same.
        let place : get_or (set m (a / 2) e) x false_edge ≡ e = ap (λ i. get_or (set m (a / 2) e) i false_edge) (sym same) ∙ get_or-set_same m (a / 2) e false_edge (omega (arith, g.literals.0.top)) in (
          subst (Inside t) (sym place) (known_inside lawful (ands_well lawful well ands) (ands_known lawful well ands)),
          λ ρ w sat. ap (meaning k ρ t) place ∙ ands_means k ρ lawful well ands ∙ (λ i. k.and (y_side.1 ρ w sat i) (z_side.1 ρ w sat i)) ∙ sym (agrees before (gate a y z) is whole ρ w sat) ∙ ap w same,
        ))
        (λ other.
        let place : get_or (set m (a / 2) e) x false_edge ≡ get_or m x false_edge = get_or-set_other m (a / 2) x e false_edge (λ q. other (sym q)) in
        let old : Defined before x = ⊎_elim (λ q. q) (λ q. absurd (other q)) (defined_push before (gate a y z) x d) in
        subst (λ f. Stands k all t f (λ w. w x)) (sym place) (stands_on s t (get_or m x false_edge) (λ w. w x) (ands_extends ands) (r x old)))
        (cases_eq (a / 2) x)
      where
        y_side : Stands k all s (through m y) (λ w. lit k w y)
        y_side = through_right before s m y r g.known.0

        z_side : Stands k all s (through m z) (λ w. lit k w z)
        z_side = through_right before s m z r g.known.1

    step_input : (before : List Item) (v : ℕ) (is : List Item) (s : State) (m : List Edge) → all ≡ before ++ (input v ∷ is) → length before < s.inputs → get_or m (v / 2) false_edge ≡ edge (2 * (length before + 1)) → Right k all before s m → Right k all (before ++ (input v ∷ [])) s m
    step_input before v is s m whole l here r x d =
        ⊎_elim
        (λ old. r x old)
        (λ same.
        let place : get_or m x false_edge ≡ edge (2 * (length before + 1)) = ap (λ z. get_or m z false_edge) (sym same) ∙ here in
        (subst (Inside s) (sym place) (omega arith), λ ρ w sat. ap (meaning k ρ s) place ∙ input_means s (length before) ρ l ∙ sym (agrees before (input v) is whole ρ w sat) ∙ ap w same))
        (defined_push before (input v) x d)

    step_output : (before : List Item) (v : ℕ) (s : State) (m : List Edge) → Right k all before s m → Right k all (before ++ (output v ∷ [])) s m
    step_output before v s m r x d = ⊎_elim (λ old. r x old) (λ bad. absurd bad) (defined_push before (output v) x d)

    -- what holds after the requests, begun in s with a nodes added before
    abbrev pub Ended : State → ℕ → Outcome → Type 0
    Ended s a (done m t n) = Well b t × Extends s t × (length t.pairs + a ≡ length s.pairs + n) × Right k all all t m
    Ended s a (stopped j t) = Well b t × Extends s t × (t.limit ≤ length t.pairs)

    earlier : (s t : State) (a c : ℕ) (o : Outcome) → Extends s t → length t.pairs ≡ length s.pairs + c → Ended t (a + c) o → Ended s a o
    earlier s t a c (done m u n) x l e = (e.0, extends_trans s t u x e.1, omega (arith, e.2), e.3)
    earlier s t a c (stopped j u) x l e = (e.0, extends_trans s t u x e.1, e.2)

    pub runs : (is before : List Item) (n : ℕ) (s : State) (m : List Edge) (a : ℕ) → all ≡ before ++ is → length before ≡ n → Goods h n before is → Inputs n is m → h.inputs ≡ s.inputs → h.max < length m → Well b s → Right k all before s m → Ended s a (run b n is s m a)
    unfolding run
    runs [] before n s m a whole long g p count room well r = (well, extends_refl s, refl, subst (λ xs. Right k all xs s m) (sym (whole ∙ append-nil before)) r)
    runs (input v ∷ is) before n s m a whole long g p count room well r =
        runs is (before ++ (input v ∷ [])) (n + 1) s m a (whole ∙ sym (append_assoc before (input v ∷ []) is)) (length_push before (input v) ∙ ap (λ i. i + 1) long) g.2 p.1 count room well
        (step_input before v is s m whole (omega (arith, g.1)) (p.0 ∙ ap (λ i. edge (2 * (i + 1))) (sym long)) r)
    runs (output v ∷ is) before n s m a whole long g p count room well r =
        runs is (before ++ (output v ∷ [])) (n + 1) s m a (whole ∙ sym (append_assoc before (output v ∷ []) is)) (length_push before (output v) ∙ ap (λ i. i + 1) long) g.2 p count room well
        (step_output before v s m r)
    runs (gate x y z ∷ is) before n s m a whole long g p count room well r =
        go (and_of b s (through m y) (through m z)).answer (and_ands b lawful s well (through m y) (through m z)) (λ e new ands.
        runs is (before ++ (gate x y z ∷ [])) (n + 1) (and_of b s (through m y) (through m z)).after (set m (x / 2) e) (a + cond new 1 0) (whole ∙ sym (append_assoc before (gate x y z ∷ []) is)) (length_push before (gate x y z) ∙ ap (λ i. i + 1) long) g.2
        (no_inputs h (n + 1) (before ++ (gate x y z ∷ [])) is m (set m (x / 2) e) (omega (arith, g.1)) g.2 p)
        (count ∙ sym (ands_extends ands).inputs)
        (omega (arith, length-set m (x / 2) e))
        (ands_well lawful well ands)
        (step_gate before x y z is s (and_of b s (through m y) (through m z)).after m e new whole g.0 room well r ands))
      where
        t : State
        t = (and_of b s (through m y) (through m z)).after

        go : (q : Result (Edge × Bool) Refusal) → Ands b s (through m y) (through m z) q t → ((e : Edge) (new : Bool) → Ands b s (through m y) (through m z) (Ok (e, new)) t → Ended t (a + cond new 1 0) (run b (n + 1) is t (set m (x / 2) e) (a + cond new 1 0))) → Ended s a (elim q [ Ok f ↦ run b (n + 1) is t (set m (x / 2) f.0) (a + cond f.1 1 0) | Err c ↦ stopped n t ])
        go (Ok f) ands rest = earlier s t a (cond f.1 1 0) (run b (n + 1) is t (set m (x / 2) f.0) (a + cond f.1 1 0)) (ands_extends ands) (ands_counts ands) (rest f.0 f.1 ands)
        go (Err c) ands rest = (ands_well lawful well ands, ands_extends ands, refused_full ands (through_right before s m y r g.0.known.0).0 (through_right before s m z r g.0.known.1).0)
