-- The requests of a graph's own text store its pairs again, and every edge stands for itself.
use Rattle.std.proofs.Common.{◌≡◌, ℕ, zero, suc, ◌+◌, ◌-◌, ◌*◌, ◌/◌, ◌%◌, ◌<◌, ◌≤◌, true, cond, eqb, List, [], ◌∷◌, ◌++◌, length, get_or, drop, set, Some, Ok, Err, sym, refl, ap, ◌∙◌, ⊎_elim, append_assoc, add-zero, arith, length-append, length-set, get_or-set_other, get_or-set_same}
use Rattle.std.proofs.lemmas.List.{drop_at, length-map}
use Rattle.std.proofs.lemmas.Bool.{cases_eq, cond_both, eqb-true, eqb-false, cond-false, ne_eqb}
use Rattle.std.specs.List.{slice_get}
use Rattle.rules.specs.declared.edge.Edge.{Edge}
use Rattle.rules.specs.declared.pair.Pair.{Pair}
use Rattle.rules.specs.declared.window.Window.{Window}
use Rattle.rules.specs.declared.window.Reply.{Reply}
use Rattle.rules.specs.Edges.{edge, false_edge, plain, node, complemented, complement}
use Rattle.rules.specs.Lawful.{Lawful}
use Rattle.graph_model.specs.Graphs.{State}
use Rattle.graph_model.specs.Requests.{and_of}
use Rattle.graph_model.specs.WellFormed.{Well}
use Rattle.aiger_check.specs.Circuits.{Item, output}
use Rattle.aiger_check.specs.Checks.{notes}
use Rattle.aiger_check.specs.Calls.{opened}
use Rattle.aiger_check.proofs.Keeping.{starts}
use Rattle.aiger_check.proofs.Ending.{length-opened}
use Rattle.aiger_write.specs.Texts.{inputs_of, outputs_of, gates_of, items, header_of}
use Rattle.aiger_write.proofs.Whole.{length_inputs}
use Rattle.aiger_read.specs.Requests.{through, done, stopped, run}
use Rattle.aiger_read.specs.Reads.{requests}
use Rattle.aiger_read.specs.RoundTrip.{Drawn}
use Rattle.aiger_read.proofs.Run.{Inputs}
use Rattle.aiger_read.proofs.Ends.{inputs_from, unspoilt, notes-length}
use Rattle.aiger_read.proofs.Graphs.{goods}
use Rattle.aiger_read.proofs.Restores.{first, restores}

-- variable x stands for node x
abbrev Same : ℕ → List Edge → Type 0
Same n m = (x : ℕ) → x ≤ n → get_or m x false_edge ≡ plain x

complement-plain : (n : ℕ) → complement (plain n) ≡ edge (2 * n + 1)
complement-plain n = ap edge (cond-false (complemented (plain n)) (2 * n - 1) (2 * n + 1) (ne_eqb (2 * n % 2) 1 (omega arith)))

pub through_same : (n : ℕ) (m : List Edge) (e : Edge) → Same n m → node e ≤ n → through m e.0 ≡ e
through_same n m e s l =
    cond_both (eqb (e.0 % 2) 0) (get_or m (e.0 / 2) false_edge) (complement (get_or m (e.0 / 2) false_edge)) (λ z. z ≡ e)
    (λ t. s (e.0 / 2) l ∙ (let q = eqb-true (e.0 % 2) 0 t in let f : 2 * (e.0 / 2) ≡ e.0 = omega arith in ap edge f))
    (λ t. ap complement (s (e.0 / 2) l) ∙ complement-plain (e.0 / 2) ∙ (let q = eqb-false (e.0 % 2) 0 t in let f : 2 * (e.0 / 2) + 1 ≡ e.0 = omega arith in ap edge f))

nth_drop : {X : Type 0} (xs : List X) (k : ℕ) (x : X) (ys : List X) → drop k xs ≡ x ∷ ys → (slice_get xs k ≡ Some x) × (drop (k + 1) xs ≡ ys)
nth_drop [] zero x ys e = absurd (let z : ◌≡◌ {A = ℕ} 0 1 = cc in omega arith)
nth_drop [] (suc k) x ys e = absurd (let z : ◌≡◌ {A = ℕ} 0 1 = cc in omega arith)
nth_drop (a ∷ xs) zero x ys e = let p : a ≡ x = cc in let q : xs ≡ ys = cc in (let f : 0 + 1 ≡ suc 0 = omega arith in (ap Some p, ap (λ n. drop n (a ∷ xs)) f ∙ q))
nth_drop (a ∷ xs) (suc k) x ys e = let r = nth_drop xs k x ys e in (let f : suc k + 1 ≡ suc (k + 1) = omega arith in (r.0, ap (λ n. drop n (a ∷ xs)) f ∙ r.1))

module _ (b : Window → Reply) (lawful : Lawful b) (s : State) (well : Well b s) (limit max_edge : ℕ) (roomy : 2 * (limit + s.inputs) + 1 ≤ max_edge) (room : length s.pairs ≤ limit) where
  abbrev n : ℕ
  n = s.inputs

  again : (ps : List Pair) (k j : ℕ) (m : List Edge) (a : ℕ) → drop k s.pairs ≡ ps → k + length ps ≡ length s.pairs → Same (n + k) m → n + length s.pairs < length m → (m' : List Edge) × (run b j (gates_of (n + 1 + k) ps) (first s limit max_edge k) m a ≡ done m' (first s limit max_edge (k + length ps)) (a + length ps)) × Same (n + (k + length ps)) m'
  unfolding run
  again [] k j m a rest size same wide = (m, (λ i. done m (first s limit max_edge (sym (add-zero k) i)) (sym (add-zero a) i)), λ x h. same x (omega arith))
  again (p ∷ ps) k j m a rest size same wide =
      let here = nth_drop s.pairs k p ps rest in
      let near = well.earlier k p here.0 in
      let told = restores b lawful s well limit max_edge roomy k p here.0 (omega arith) in
      let same_x = through_same (n + k) m p.larger same (omega (arith, near.0)) in
      let same_y = through_same (n + k) m p.smaller same (omega (arith, near.1)) in
      let said : (and_of b (first s limit max_edge k) (through m p.larger.0) (through m p.smaller.0)).answer ≡ Ok (plain (n + 1 + k), true) = (λ i. (and_of b (first s limit max_edge k) (same_x i) (same_y i)).answer) ∙ told.0 in
      let after : (and_of b (first s limit max_edge k) (through m p.larger.0) (through m p.smaller.0)).after ≡ first s limit max_edge (k + 1) = (λ i. (and_of b (first s limit max_edge k) (same_x i) (same_y i)).after) ∙ told.1 in
      let set_here : get_or (set m (2 * (n + 1 + k) / 2) (plain (n + 1 + k))) (2 * (n + 1 + k) / 2) false_edge ≡ plain (n + 1 + k) = get_or-set_same m (2 * (n + 1 + k) / 2) (plain (n + 1 + k)) false_edge (omega arith) in
      let s₁ : Same (n + (k + 1)) (set m (2 * (n + 1 + k) / 2) (plain (n + 1 + k))) = (λ x h. ⊎_elim
      (λ e. ap (λ z. get_or (set m (2 * (n + 1 + k) / 2) (plain (n + 1 + k))) z false_edge) e ∙ set_here ∙ (let f : n + 1 + k ≡ x = omega arith in ap plain f))
      (λ d. get_or-set_other m (2 * (n + 1 + k) / 2) x (plain (n + 1 + k)) false_edge d ∙ same x (omega arith))
      (cases_eq x (2 * (n + 1 + k) / 2))) in
      let more = again ps (k + 1) (j + 1) (set m (2 * (n + 1 + k) / 2) (plain (n + 1 + k))) (a + 1) here.1 (omega arith) s₁ (omega (arith, length-set m (2 * (n + 1 + k) / 2) (plain (n + 1 + k)))) in
      let t : k + 1 + length ps ≡ k + suc (length ps) = omega arith in
      let c : a + 1 + length ps ≡ a + suc (length ps) = omega arith in
      let q : n + 1 + k + 1 ≡ n + 1 + (k + 1) = omega arith in (
        more.0,
        ap (λ o. elim o [ Ok r ↦ run b (j + 1) (gates_of (n + 1 + k + 1) ps) (and_of b (first s limit max_edge k) (through m p.larger.0) (through m p.smaller.0)).after (set m (2 * (n + 1 + k) / 2) r.0) (a + cond r.1 1 0) | Err e ↦ stopped j (and_of b (first s limit max_edge k) (through m p.larger.0) (through m p.smaller.0)).after ]) said
            ∙ (λ i. run b (j + 1) (gates_of (q i) ps) (after i) (set m (2 * (n + 1 + k) / 2) (plain (n + 1 + k))) (a + 1))
            ∙ more.1
            ∙ (λ i. done more.0 (first s limit max_edge (t i)) (c i)),
        λ x h. more.2 x (omega arith),
      )

-- the inputs' places
place : (c j : ℕ) (rest : List Item) (m : List Edge) → Inputs j (inputs_of j c ++ rest) m → (x : ℕ) → j < x → x ≤ j + c → get_or m x false_edge ≡ plain x
place zero j rest m p x a b = absurd (omega arith)
place (suc c) j rest m p x a b =
    ⊎_elim
    (λ e.
    let y : x ≡ 2 * (j + 1) / 2 = omega arith in
    ap (λ z. get_or m z false_edge) y ∙ p.0 ∙ (let f : j + 1 ≡ x = omega arith in ap plain f))
    (λ d. place c (j + 1) rest m p.1 x (omega arith) (omega arith))
    (cases_eq x (j + 1))

-- the gates are what comes after the inputs and the outputs
drop-items : (n : ℕ) (ps : List Pair) (os : List Edge) → drop (n + length os) (items n ps os) ≡ gates_of (n + 1) ps
unfolding items
drop-items n ps os =
    ap (drop (n + length os)) (sym (append_assoc (inputs_of 0 n) (outputs_of os) (gates_of (n + 1) ps)))
    ∙ drop_at (inputs_of 0 n ++ outputs_of os) (gates_of (n + 1) ps) (n + length os) (length-append (inputs_of 0 n) (outputs_of os) ∙ (λ i. length_inputs 0 n i + length-map os (λ e. output e.0) i))

-- read into a new graph, the text of s gives the pairs of s, and each edge again
pub rebuilds : (b : Window → Reply) → Lawful b → (s : State) → Well b s → (limit max_edge : ℕ) → 2 * (limit + s.inputs) + 1 ≤ max_edge → length s.pairs ≤ limit → (os : List Edge) → Drawn s.inputs s.pairs os → (m : List Edge) → s.inputs + length s.pairs < length m
    → (m' : List Edge) × (requests b (header_of s.inputs s.pairs os) (items s.inputs s.pairs os) m (first s limit max_edge 0) ≡ done m' (first s limit max_edge (length s.pairs)) (length s.pairs)) × ((e : Edge) → node e ≤ s.inputs + length s.pairs → through m' e.0 ≡ e)
unfolding items
rebuilds b lawful s well limit max_edge roomy room os w m wide =
    let g = goods n ps os w in
    let opened_wide = length-opened (n + length ps) m wide in
    let ins = inputs_from (header_of n ps os) 0 (items n ps os) [] (opened (n + length ps) m) (omega arith) g in
    let same : Same (n + 0) (notes 0 (items n ps os) (opened (n + length ps) m)) = (λ x l. ⊎_elim
    (λ z. ap (λ y. get_or (notes 0 (items n ps os) (opened (n + length ps) m)) y false_edge) z ∙ unspoilt (header_of n ps os) 0 0 (items n ps os) [] (opened (n + length ps) m) 0 g refl ∙ (starts (n + length ps) m wide).constant ∙ (let f : 2 * x ≡ 0 = omega arith in ap edge (sym f)))
    (λ nz. place n 0 (outputs_of os ++ gates_of (n + 1) ps) (notes 0 (items n ps os) (opened (n + length ps) m)) ins x (omega arith) (omega arith))
    (cases_eq x 0)) in
    let a = again b lawful s well limit max_edge roomy room ps 0 (n + length os) (notes 0 (items n ps os) (opened (n + length ps) m)) 0 refl (omega arith) same (omega (arith, notes-length (header_of n ps os) 0 (items n ps os) (opened (n + length ps) m))) in
    let e : n + 1 ≡ n + 1 + 0 = omega arith in
    let t : 0 + length ps ≡ length ps = omega arith in (
      a.0,
      ap (λ xs. run b (n + length os) xs (first s limit max_edge 0) (notes 0 (items n ps os) (opened (n + length ps) m)) 0) (drop-items n ps os)
          ∙ ap (λ p. run b (n + length os) (gates_of p ps) (first s limit max_edge 0) (notes 0 (items n ps os) (opened (n + length ps) m)) 0) e
          ∙ a.1
          ∙ (λ i. done a.0 (first s limit max_edge (t i)) (t i)),
      λ d l. through_same (n + (0 + length ps)) a.0 d a.2 (omega arith),
    )
  where
    n : ℕ
    n = s.inputs

    ps : List Pair
    ps = s.pairs
