-- What is written of a graph is a well-formed circuit.
use Rattle.std.proofs.Common.{◌≡◌, ℕ, zero, suc, ◌+◌, ◌*◌, ◌/◌, ◌<◌, ◌≤◌, List, [], ◌∷◌, ◌++◌, length, get_or, take, sym, refl, ap, ◌∙◌, subst, ⊎_elim, append_assoc, append-nil, add-zero, arith}
use Rattle.std.proofs.lemmas.List.{length-map, get_or_append_left, get_or-append-add, get_or-map}
use Rattle.std.proofs.lemmas.Bool.{cases_lt}
use Rattle.aiger_lines.specs.declared.fields.Header.{Header}
use Rattle.aiger_check.specs.Circuits.{Item, input, output, gate, Due, Defines, Defined, Good, nothing}
use Rattle.aiger_check.specs.Files.{literal}
use Rattle.aiger_check.proofs.Goods.{Goods}
use Rattle.aiger_read.proofs.Run.{defined_push, defined_old, defined_last}
use Rattle.rules.specs.declared.edge.Edge.{Edge}
use Rattle.rules.specs.declared.pair.Pair.{Pair}
use Rattle.rules.specs.Edges.{false_edge}
use Rattle.aiger_write.specs.Texts.{inputs_of, outputs_of, gates_of, items, header_of}
use Rattle.aiger_write.proofs.Whole.{length_inputs, length-items}
use Rattle.aiger_read.specs.RoundTrip.{WellFormed, Ordered, Drawn}

-- the variables up to n are defined, and no others
pub record Covers (is : List Item) (n : ℕ) : Type 0 where
  pub all : (x : ℕ) → x ≤ n → Defined is x
  pub only : (x : ℕ) → Defined is x → x ≤ n

covers_none : Covers [] 0
covers_none = record { all = λ x l. omega arith; only = λ x e. omega arith }

covers_more : (is : List Item) (n : ℕ) (i : Item) → Covers is n → Defines i (n + 1) → ((x : ℕ) → Defines i x → x ≡ n + 1) → Covers (is ++ (i ∷ [])) (n + 1)
covers_more is n i c d o = record {
  all = λ x l. ⊎_elim
      (λ less. defined_old is i x (c.all x (omega arith)))
      (λ more. let e : n + 1 ≡ x = omega arith in defined_last is i x (subst (Defines i) e d))
      (cases_lt x (n + 1));
  only = λ x h. ⊎_elim (λ old. omega (arith, c.only x old)) (λ new. omega (arith, o x new)) (defined_push is i x h);
}

covers_output : (is : List Item) (n v : ℕ) → Covers is n → Covers (is ++ (output v ∷ [])) n
covers_output is n v c = record { all = λ x l. defined_old is (output v) x (c.all x l); only = λ x h. ⊎_elim (c.only x) (λ bad. absurd bad) (defined_push is (output v) x h) }

covers_gate : (is : List Item) (n a b : ℕ) → Covers is n → Covers (is ++ (gate (2 * (n + 1)) a b ∷ [])) (n + 1)
covers_gate is n a b c = covers_more is n (gate (2 * (n + 1)) a b) c (omega arith) (λ x e. omega arith)

covers_input : (is : List Item) (n : ℕ) → Covers is n → Covers (is ++ (input (2 * (n + 1)) ∷ [])) (n + 1)
covers_input is n c = covers_more is n (input (2 * (n + 1))) c (omega arith) (λ x e. omega arith)

covers_inputs : (c j : ℕ) (is : List Item) → Covers is j → Covers (is ++ inputs_of j c) (j + c)
covers_inputs zero j is h = subst (λ xs. Covers xs (j + 0)) (sym (append-nil is)) (subst (Covers is) (sym (add-zero j)) h)
covers_inputs (suc c) j is h =
    let e : j + 1 + c ≡ j + suc c = omega arith in
    subst (λ xs. Covers xs (j + suc c)) (append_assoc is (input (2 * (j + 1)) ∷ []) (inputs_of (j + 1) c)) (subst (Covers _) e (covers_inputs c (j + 1) (is ++ (input (2 * (j + 1)) ∷ [])) (covers_input is j h)))

covers_outputs : (outs : List Edge) (n : ℕ) (is : List Item) → Covers is n → Covers (is ++ outputs_of outs) n
covers_outputs [] n is h = subst (λ xs. Covers xs n) (sym (append-nil is)) h
covers_outputs (o ∷ outs) n is h = subst (λ xs. Covers xs n) (append_assoc is (output o.0 ∷ []) (outputs_of outs)) (covers_outputs outs n (is ++ (output o.0 ∷ [])) (covers_output is n o.0 h))

covers_gates : (ps : List Pair) (n : ℕ) (is : List Item) → Covers is n → Covers (is ++ gates_of (n + 1) ps) (n + length ps)
covers_gates [] n is h = subst (λ xs. Covers xs (n + 0)) (sym (append-nil is)) (subst (Covers is) (sym (add-zero n)) h)
covers_gates (p ∷ ps) n is h =
    let e : n + 1 + length ps ≡ n + suc (length ps) = omega arith in
    subst (λ xs. Covers xs (n + suc (length ps))) (append_assoc is (gate (2 * (n + 1)) p.larger.0 p.smaller.0 ∷ []) (gates_of (n + 1 + 1) ps)) (subst (Covers _) e (covers_gates ps (n + 1) (is ++ (gate (2 * (n + 1)) p.larger.0 p.smaller.0 ∷ [])) (covers_gate is n p.larger.0 p.smaller.0 h)))

module _ (h : Header) where
  goods_append : (xs ys before : List Item) (n : ℕ) → Goods h n before xs → Goods h (n + length xs) (before ++ xs) ys → Goods h n before (xs ++ ys)
  goods_append [] ys before n g k = subst (λ b. Goods h n b ys) (append-nil before) (subst (λ m. Goods h m (before ++ []) ys) (add-zero n) k)
  goods_append (x ∷ xs) ys before n g k =
      let e : n + suc (length xs) ≡ n + 1 + length xs = omega arith in
      (g.0, g.1, goods_append xs ys (before ++ (x ∷ [])) (n + 1) g.2 (subst (λ b. Goods h (n + 1 + length xs) b ys) (sym (append_assoc before (x ∷ []) xs)) (subst (λ m. Goods h m (before ++ (x ∷ xs)) ys) e k)))

  goods_inputs : (c j : ℕ) (before : List Item) → Covers before j → j + c ≤ h.inputs → h.inputs ≤ h.max → Goods h j before (inputs_of j c)
  goods_inputs zero j before v l w = tt
  goods_inputs (suc c) j before v l w = (
    record { literals = record { some = omega arith; even = omega arith; top = omega arith }; fresh = λ d. omega (arith, v.only (2 * (j + 1) / 2) d); known = tt },
    omega arith,
    goods_inputs c (j + 1) (before ++ (input (2 * (j + 1)) ∷ [])) (covers_input before j v) (omega arith) w,
  )

  goods_outputs : (outs : List Edge) (k : ℕ) (before : List Item) → h.inputs ≤ k → k + length outs ≤ h.inputs + h.outputs → ((j : ℕ) → j < length outs → (get_or outs j false_edge).0 / 2 ≤ h.max) → Goods h k before (outputs_of outs)
  goods_outputs [] k before a b t = tt
  goods_outputs (o ∷ outs) k before a b t =
      (record { literals = omega (arith, t 0 (omega arith)); fresh = tt; known = tt }, (a, omega arith), goods_outputs outs (k + 1) (before ++ (output o.0 ∷ [])) (omega arith) (omega arith) (λ j l. t (suc j) (omega arith)))

  goods_gates : (ps : List Pair) (n k : ℕ) (before : List Item) → Covers before n → h.inputs + h.outputs ≤ k → n + length ps ≤ h.max → Ordered (n + 1) ps → Goods h k before (gates_of (n + 1) ps)
  goods_gates [] n k before v a l o = tt
  goods_gates (p ∷ ps) n k before v a l o = (
    record {
      literals = (record { some = omega arith; even = omega arith; top = omega arith }, omega (arith, o.0), omega (arith, o.1));
      fresh = λ d. omega (arith, v.only (2 * (n + 1) / 2) d);
      known = (v.all (p.larger.0 / 2) (omega (arith, o.0)), v.all (p.smaller.0 / 2) (omega (arith, o.1)));
    },
    a,
    goods_gates ps (n + 1) (k + 1) (before ++ (gate (2 * (n + 1)) p.larger.0 p.smaller.0 ∷ [])) (covers_gate before n p.larger.0 p.smaller.0 v) (omega arith) (omega arith) o.2,
  )

  goods_at : (rest before : List Item) (n k : ℕ) → Goods h n before rest → k < length rest → Good h.max (Defined (before ++ take k rest)) (get_or rest k nothing) × Due h (n + k) (get_or rest k nothing)
  goods_at [] before n k g l = absurd (omega arith)
  goods_at (i ∷ rest) before n zero g l = (subst (λ b. Good h.max (Defined b) i) (sym (append-nil before)) g.0, subst (λ m. Due h m i) (sym (add-zero n)) g.1)
  goods_at (i ∷ rest) before n (suc k) g l =
      let e : n + 1 + k ≡ n + suc k = omega arith in
      let r = goods_at rest (before ++ (i ∷ [])) (n + 1) k g.2 (omega arith) in
      (subst (λ b. Good h.max (Defined b) (get_or rest k nothing)) (append_assoc before (i ∷ []) (take k rest)) r.0, subst (λ m. Due h m (get_or rest k nothing)) e r.1)

module _ (n : ℕ) (ps : List Pair) (outs : List Edge) (w : Drawn n ps outs) where
  pub goods : Goods (header_of n ps outs) 0 [] (items n ps outs)
  unfolding items
  goods =
      let start = covers_inputs n 0 [] covers_none in
      let z : 0 + n ≡ n = omega arith in
      let cover : Covers (inputs_of 0 n) n = subst (Covers (inputs_of 0 n)) z start in
      let k : 0 + length (inputs_of 0 n) ≡ n = omega (arith, length_inputs 0 n) in
      goods_append (header_of n ps outs) (inputs_of 0 n) (outputs_of outs ++ gates_of (n + 1) ps) [] 0
      (goods_inputs (header_of n ps outs) n 0 [] covers_none (omega arith) (omega arith))
      (goods_append (header_of n ps outs) (outputs_of outs) (gates_of (n + 1) ps) (inputs_of 0 n) (0 + length (inputs_of 0 n))
      (goods_outputs (header_of n ps outs) outs (0 + length (inputs_of 0 n)) (inputs_of 0 n) (omega (arith, length_inputs 0 n)) (omega (arith, length_inputs 0 n)) w.known)
      (goods_gates (header_of n ps outs) ps n (0 + length (inputs_of 0 n) + length (outputs_of outs)) (inputs_of 0 n ++ outputs_of outs) (covers_outputs outs n (inputs_of 0 n) cover) (omega (arith, length_inputs 0 n, length-map outs (λ e. output e.0))) (omega arith) w.ordered))

  covers : Covers (items n ps outs) (n + length ps)
  unfolding items
  covers =
      let z : 0 + n ≡ n = omega arith in
      let cover : Covers (inputs_of 0 n) n = subst (Covers (inputs_of 0 n)) z (covers_inputs n 0 [] covers_none) in
      subst (λ xs. Covers xs (n + length ps)) (append_assoc (inputs_of 0 n) (outputs_of outs) (gates_of (n + 1) ps)) (covers_gates ps n (inputs_of 0 n ++ outputs_of outs) (covers_outputs outs n (inputs_of 0 n) cover))

  pub output_is : (j : ℕ) → j < length outs → get_or (items n ps outs) (n + j) nothing ≡ output (get_or outs j false_edge).0
  unfolding items
  output_is j l =
      ap (λ k. get_or (inputs_of 0 n ++ (outputs_of outs ++ gates_of (n + 1) ps)) (k + j) nothing) (sym (length_inputs 0 n))
      ∙ get_or-append-add (inputs_of 0 n) (outputs_of outs ++ gates_of (n + 1) ps) j nothing
      ∙ get_or_append_left (outputs_of outs) (gates_of (n + 1) ps) nothing j (omega (arith, length-map outs (λ e. output e.0)))
      ∙ get_or-map (λ e. output e.0) outs j false_edge nothing l

  pub well_formed : WellFormed (header_of n ps outs) (items n ps outs)
  well_formed = record {
    count = length-items n ps outs;
    due = λ k l. (let e : 0 + k ≡ k = omega arith in subst (λ m. Due (header_of n ps outs) m (get_or (items n ps outs) k nothing)) e (goods_at (header_of n ps outs) (items n ps outs) [] 0 k goods l).1);
    good = λ k l. (goods_at (header_of n ps outs) (items n ps outs) [] 0 k goods l).0;
    outputs = λ j l. subst (λ i. Defined (items n ps outs) (literal i / 2)) (sym (output_is j l)) (covers.all ((get_or outs j false_edge).0 / 2) (w.known j l));
    latches = refl;
    within = record { enough = omega arith; small = record { max = omega (arith, w.inputs, w.size); inputs = w.inputs; outputs = w.count; ands = w.size } };
  }
