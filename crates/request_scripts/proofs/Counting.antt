-- The answers of a history say how many nodes its graph has.
use Rattle.std.proofs.Common.{◌≡◌, ℕ, ◌+◌, ◌/◌, ◌≤◌, Bool, false, cond, ◌⊎◌, List, [], ◌∷◌, length, get_or, drop, Ok, Err, Result, sym, refl, ap, ◌∙◌, subst, inl, inr, length-append, set, arith}
use Rattle.values.specs.Algebra.{BooleanAlgebra}
use Rattle.values.specs.Bit.{bit_algebra}
use Rattle.rules.specs.declared.edge.Edge.{Edge}
use Rattle.rules.specs.declared.window.Window.{Window}
use Rattle.rules.specs.declared.window.Reply.{Reply}
use Rattle.rules.specs.Edges.{complement}
use Rattle.rules.specs.Lawful.{Lawful}
use Rattle.graph_model.specs.declared.operation.Operation.{Operation}
use Rattle.graph_model.specs.declared.operation.Operation.TheVariants.{Or, Implies, Equiv, Xor}
use Rattle.graph_model.specs.declared.refusal.Refusal.{Refusal}
use Rattle.graph_model.specs.declared.refusal.Refusal.TheVariants.{Full, NoNode}
use Rattle.graph_model.specs.Graphs.{State}
use Rattle.graph_model.specs.Requests.{and_of}
use Rattle.graph_model.specs.Operations.{Applied, counted, turned, chained, nand_of, equiv_of, apply_of}
use Rattle.graph_model.specs.Settling.{Ands, no_node, answered, found, added, full}
use Rattle.graph_model.specs.WellFormed.{Well}
use Rattle.graph_model.proofs.Requests.{and_ands, ands_well}
use Rattle.graph_model.proofs.Operations.{Both, apply_extends, apply_counts, apply_no_node, apply_refused}
use Rattle.aiger_lines.specs.declared.fields.Header.{Header}
use Rattle.aiger_check.specs.declared.faults.AtLine.{AtLine}
use Rattle.aiger_check.specs.declared.faults.CircuitFault.{CircuitFault}
use Rattle.aiger_check.specs.declared.faults.CircuitFault.TheVariants as fault
use Rattle.aiger_check.specs.declared.faults.LineFault.{LineFault}
use Rattle.aiger_check.specs.declared.faults.LineFault.TheVariants as line_fault
use Rattle.aiger_check.specs.Circuits.{Item, input, output, gate, Faulty, Defined}
use Rattle.aiger_check.specs.Checks.{notes}
use Rattle.aiger_check.specs.Calls.{Checked, opened}
use Rattle.aiger_check.specs.Files.{LinesFault, in_line, in_name, in_output}
use Rattle.aiger_check.specs.Text.{lines}
use Rattle.aiger_read.specs.Requests.{Outcome, done, stopped, run, through}
use Rattle.aiger_read.specs.Reads.{Reads}
use Rattle.aiger_read.proofs.Run.{Ended}
use Rattle.aiger_read.proofs.Ends.{requests_end}
use Rattle.aiger_read.proofs.Happens.{files_mean}
use Rattle.history_model.specs.declared.request.Request.{Request}
use Rattle.history_model.specs.Histories.{Told, anded, applied, read, World, Happens, asked, operated, loaded, Moment, History}
use Rattle.history_model.proofs.Steps.{ands_of, steps}
use Rattle.request_scripts.specs.Sizes.{size_after, is_full_line, is_full_file}
use Rattle.request_scripts.specs.Counts.{NodesCounted}
use Rattle.request_scripts.proofs.Scripts.{size_within}

-- a graph is within its limit, and at it where a request was refused as full
pub record Fit (b : Window → Reply) (a : Result (Edge × ℕ) Refusal) (t : State) : Type 0 where
  pub well : Well b t
  pub within : length t.pairs ≤ t.limit
  pub at_limit : a ≡ Err Full → t.limit ≤ length t.pairs

ands_at_limit : {b : Window → Reply} {s t : State} {x y : Edge} → Ands b s x y (Err Full) t → t.limit ≤ length t.pairs
ands_at_limit (full i j g n l) = l

ands_within : {b : Window → Reply} {s t : State} {x y : Edge} {a : Result (Edge × Bool) Refusal} → Ands b s x y a t → length s.pairs ≤ s.limit → length t.pairs ≤ t.limit
ands_within (no_node h) w = w
ands_within (answered i j g) w = w
ands_within (found n i j g h) w = w
ands_within {s = s} (added {p} i j g n l) w = omega (arith, length-append s.pairs (p ∷ []))
ands_within (full i j g n l) w = w

-- the pairs after an AND, by its answer
ands_size : (W : Type 0) {b : Window → Reply} {s t : State} {x y : Edge} {a : Result (Edge × Bool) Refusal} → Ands b s x y a t → length s.pairs ≤ s.limit → length t.pairs ≡ size_after {W = W} s.limit (length s.pairs) (anded a)
ands_size W (no_node h) w = refl
ands_size W (answered i j g) w = omega arith
ands_size W (found n i j g h) w = omega arith
ands_size W {s = s} (added {p} i j g n l) w = omega (arith, length-append s.pairs (p ∷ []))
ands_size W (full i j g n l) w = omega arith

full_counted : (a : Result (Edge × Bool) Refusal) → counted a ≡ Err Full → a ≡ Err Full
full_counted (Ok a) h = (let u : ⊥ = cc in absurd u)
full_counted (Err c) h = let e : c ≡ Full = cc in ap (λ z. Err z) e

full_turned : (a : Result (Edge × ℕ) Refusal) → turned a ≡ Err Full → a ≡ Err Full
full_turned (Ok a) h = (let u : ⊥ = cc in absurd u)
full_turned (Err c) h = h

fit_turned : {b : Window → Reply} {a : Result (Edge × ℕ) Refusal} {t : State} → Fit b a t → Fit b (turned a) t
fit_turned {a = a} f = record { well = f.well; within = f.within; at_limit = λ h. f.at_limit (full_turned a h) }

fit_chained : {b : Window → Reply} (a : Result (Edge × ℕ) Refusal) (t : State) (next : Edge → ℕ → State → Applied) → Fit b a t → ((e : Edge) (n : ℕ) → Fit b (next e n t).answer (next e n t).after) → Fit b (chained a t next).answer (chained a t next).after
fit_chained (Ok a) t next f g = g a.0 a.1
fit_chained (Err c) t next f g = f

module _ (b : Window → Reply) (lawful : Lawful b) where
  fit_and : (s : State) → Well b s → length s.pairs ≤ s.limit → (x y : Edge) → Fit b (counted (and_of b s x y).answer) (and_of b s x y).after
  fit_and s well w x y =
      let h = and_ands b lawful s well x y in
      let P : Result (Edge × Bool) Refusal → Type 0 = λ z. Ands b s x y z (and_of b s x y).after in
      record { well = ands_well lawful well h; within = ands_within h w; at_limit = λ e. ands_at_limit (subst P (full_counted (and_of b s x y).answer e) h) }

  fit_nand : (s : State) → Well b s → length s.pairs ≤ s.limit → (x y : Edge) → Fit b (nand_of b s x y).answer (nand_of b s x y).after
  unfolding nand_of
  fit_nand s well w x y = fit_turned (fit_and s well w x y)

  fit_equiv : (s : State) → Well b s → length s.pairs ≤ s.limit → (x y : Edge) → Fit b (equiv_of b s x y).answer (equiv_of b s x y).after
  unfolding equiv_of
  fit_equiv s well w x y =
      let f = fit_nand s well w x (complement y) in
      fit_chained _ _ _ f (λ p l.
      let g = fit_nand _ f.well f.within (complement x) y in
      fit_chained _ _ _ g (λ q m.
      let h = fit_and _ g.well g.within p q in
      fit_chained _ _ _ h (λ e n. record { well = h.well; within = h.within; at_limit = λ z. (let u : ⊥ = cc in absurd u) })))

  fit_apply : (s : State) → Well b s → length s.pairs ≤ s.limit → (op : Operation) (x y : Edge) → Fit b (apply_of b s op x y).answer (apply_of b s op x y).after
  unfolding apply_of
  fit_apply s well w Or x y = fit_nand s well w (complement x) (complement y)
  fit_apply s well w Implies x y = fit_nand s well w x (complement y)
  fit_apply s well w Equiv x y = fit_equiv s well w x y
  fit_apply s well w Xor x y = fit_turned (fit_equiv s well w x y)

  apply_size : (W : Type 0) (s : State) → Well b s → length s.pairs ≤ s.limit → (op : Operation) (x y : Edge) (a : Result (Edge × ℕ) Refusal) → (apply_of b s op x y).answer ≡ a
      → length (apply_of b s op x y).after.pairs ≡ size_after {W = W} s.limit (length s.pairs) (applied a)
  apply_size W s well w op x y (Ok a) h =
      let f = fit_apply s well w op x y in
      let e = apply_counts b lawful s well op x y a.0 a.1 h in
      omega (arith, f.within, e, (apply_extends b lawful s well op x y).limit)
  apply_size W s well w op x y (Err c) h = go (apply_refused b lawful s well op x y c h)
    where
      t : State
      t = (apply_of b s op x y).after

      S : Refusal → Type 0
      S z = length (apply_of b s op x y).after.pairs ≡ size_after {W = W} s.limit (length s.pairs) (applied (Err z))

      outside : (apply_of b s op x y).answer ≡ Err NoNode → S NoNode
      outside e = ap (λ (z : State). length z.pairs) (apply_no_node b lawful s well op x y e).1

      at_limit : (apply_of b s op x y).answer ≡ Err Full → S Full
      at_limit e = let f = fit_apply s well w op x y in omega (arith, f.within, f.at_limit e, (apply_extends b lawful s well op x y).limit)

      go : (c ≡ NoNode) ⊎ ((c ≡ Full) × Both s x y) → S c
      go (inl e) = subst S (sym e) (outside (h ∙ ap (λ z. Err z) e))
      go (inr e) = subst S (sym e.0) (at_limit (h ∙ ap (λ z. Err z) e.0))

  -- a file's requests keep the graph within its limit
  abbrev Held : Outcome → Type 0
  Held (done m t n) = length t.pairs ≤ t.limit
  Held (stopped j t) = length t.pairs ≤ t.limit

  held : (is : List Item) (n : ℕ) (s : State) (m : List Edge) (a : ℕ) → Well b s → length s.pairs ≤ s.limit → Held (run b n is s m a)
  unfolding run
  held [] n s m a well w = w
  held (input v ∷ is) n s m a well w = held is (n + 1) s m a well w
  held (output v ∷ is) n s m a well w = held is (n + 1) s m a well w
  held (gate x y z ∷ is) n s m a well w =
      let fit = fit_and s well w (through m y) (through m z) in
      held_at n is m (x / 2) a (and_of b s (through m y) (through m z)).after (and_of b s (through m y) (through m z)).answer fit.within
      (λ f. held is (n + 1) (and_of b s (through m y) (through m z)).after (set m (x / 2) f.0) (a + cond f.1 1 0) fit.well fit.within)
    where
      held_at : (n : ℕ) (is : List Item) (m : List Edge) (x a : ℕ) (t : State) (q : Result (Edge × Bool) Refusal) → length t.pairs ≤ t.limit → ((f : Edge × Bool) → Held (run b (n + 1) is t (set m x f.0) (a + cond f.1 1 0)))
          → Held (elim q [ Ok f ↦ run b (n + 1) is t (set m x f.0) (a + cond f.1 1 0) | Err c ↦ stopped n t ])
      held_at n is m x a t (Ok f) within rest = rest f
      held_at n is m x a t (Err c) within rest = within

  not_full : {h : Header} {ls : List (List ℕ)} {f : AtLine} → LinesFault h ls f → is_full_line f.fault ≡ false
  not_full {h} {ls} (in_line is f n l begins faulty e) = by_fault h (length is) (get_or ls (1 + length is) []) (Defined is) f faulty
    where
      by_fault : (h : Header) (k : ℕ) (bs : List ℕ) (D : ℕ → Type 0) (f : LineFault) → Faulty h k bs D f → is_full_line f ≡ false
      by_fault h k bs D line_fault.Full w = absurd w
      by_fault h k bs D f w = refl
  not_full (in_name is m e n l begins bad p) = refl
  not_full (in_output is j n whole l good bad p) = refl

  checked_not_full : (bs : List ℕ) (graph : ℕ) (m o m' o' : List Edge) (f : CircuitFault) → Checked bs graph m o (Err f) m' o' → is_full_file f ≡ false
  checked_not_full bs graph m o m' o' (fault.Line f) h = not_full h.2
  checked_not_full bs graph m o m' o' f h = refl

  read_size : (W : Type 0) (bytes : List ℕ) (s : State) (m o : List Edge) (r : Result ℕ CircuitFault) (t : State) (m' o' map outputs : List Edge) → Well b s → length s.pairs ≤ s.limit → Reads b bytes s m o r t m' o'
      → length t.pairs ≡ size_after {W = W} s.limit (length s.pairs) (read r map outputs)
  read_size W bytes s m o (Ok n) t m' o' map outputs well w (h, is, taken, filled) =
      let within : length t.pairs ≤ t.limit = subst Held filled.runs (held (drop (h.inputs + h.outputs) is) (h.inputs + h.outputs) s (notes 0 is (opened h.max m)) 0 well w) in
      let d = files_mean bit_algebra b lawful bytes s m o (Ok n) t m' o' well (h, is, taken, filled) in
      omega (arith, within, d.counts, d.extends.limit)
  read_size W bytes s m o (Err f) t m' o' map outputs well w (inl (c, same)) =
      ap (λ (z : State). length z.pairs) same ∙ sym (ap (λ z. cond z s.limit (length s.pairs)) (checked_not_full bytes s.inputs m o m' o' f c))
  read_size W bytes s m o (Err f) t m' o' map outputs well w (inr (h, is, taken, stop)) =
      let within : length t.pairs ≤ t.limit = subst Held stop.runs (held (drop (h.inputs + h.outputs) is) (h.inputs + h.outputs) s (notes 0 is (opened h.max m)) 0 well w) in
      let e = subst (Ended bit_algebra b lawful h is s 0) stop.runs (requests_end bit_algebra b lawful h (lines bytes) is taken.whole.begins (omega (arith, taken.whole.count)) s well taken.opens.inputs m taken.opens.room.map) in
      let n : length t.pairs ≡ s.limit = omega (arith, within, e.2, e.1.limit) in
      n ∙ sym (ap (λ z. cond z s.limit (length s.pairs)) (ap is_full_file stop.fault))

  module _ {W : Type 0} (j : BooleanAlgebra W) where
    -- the pairs after any request, by its answer
    pub size_step : {v w : World} {r : Request W} {a : Told W} → Well b v.graph → length v.graph.pairs ≤ v.graph.limit → Happens j b v r a w → length w.graph.pairs ≡ size_after v.graph.limit (length v.graph.pairs) a
    size_step {v} well h (asked {x} {y} {a} {t} p q) = ands_size W (ands_of b lawful v.graph t x y a well p q) h
    size_step {v} well h (operated {op} {x} {y} {a} {t} p q) = ap (λ (z : State). length z.pairs) q ∙ apply_size W v.graph well h op x y a (sym p)
    size_step {v} well h (loaded {bytes} {places} {outs} {r} {t} {map} {outputs} {last} d l) = read_size W bytes.now v.graph _ _ r t map outputs map outputs well h d
    size_step well h d = refl

    -- the answers of every history say how many nodes there are
    pub nodes_counted : (rs : List (Request W)) (ms : List (Moment W)) (v w : World) (inputs limit n : ℕ) → Well b v.graph → v.graph.inputs ≡ inputs → v.graph.limit ≡ limit → length v.graph.pairs ≡ n → n ≤ limit → History j b v rs ms w
        → NodesCounted inputs limit n ms
    nodes_counted [] [] v w inputs limit n well i l p h d = tt
    nodes_counted [] (m ∷ ms) v w inputs limit n well i l p h d = absurd d
    nodes_counted (r ∷ rs) [] v w inputs limit n well i l p h d = absurd d
    nodes_counted (r ∷ rs) (m ∷ ms) v w inputs limit n well i l p h d =
        let B : World → Type 0 = λ z. Well b z.graph in
        let well' : Well b m.before.graph = subst B (sym d.0) well in
        let i' : m.before.graph.inputs ≡ inputs = ap (λ (z : World). z.graph.inputs) d.0 ∙ i in
        let l' : m.before.graph.limit ≡ limit = ap (λ (z : World). z.graph.limit) d.0 ∙ l in
        let p' : length m.before.graph.pairs ≡ n = ap (λ (z : World). length z.graph.pairs) d.0 ∙ p in
        let s = steps b lawful bit_algebra j well' d.2 in
        let q : length m.after.graph.pairs ≡ size_after limit n m.answer = size_step well' (omega (arith, p', l', h)) d.2 ∙ ap (λ z. size_after z (length m.before.graph.pairs) m.answer) l' ∙ ap (λ z. size_after limit z m.answer) p' in
        (omega (arith, i', p'), nodes_counted rs ms m.after w inputs limit (size_after limit n m.answer) s.well (s.extends.inputs ∙ i') (s.extends.limit ∙ l') q (size_within limit n m.answer h) d.3)
