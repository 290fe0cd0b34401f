-- Each question's list has a place for each node of its graph.
use Rattle.std.proofs.Common.{◌≡◌, ℕ, ◌+◌, ◌/◌, ◌≤◌, min, Bool, cond, List, [], ◌∷◌, length, get_or, drop, vec_items, Some, None, Ok, Err, Result, sym, ap, ◌∙◌, subst, ⊎_elim, inl, inr, length-append, length-drop, set, arith}
use Rattle.std.specs.List.{AllByRecursion}
use Rattle.values.specs.Algebra.{BooleanAlgebra}
use Rattle.values.specs.Bit.{bit_algebra}
use Rattle.rules.specs.declared.edge.Edge.{Edge}
use Rattle.rules.specs.declared.window.Window.{Window}
use Rattle.rules.specs.declared.window.Reply.{Reply}
use Rattle.rules.specs.Edges.{complement}
use Rattle.rules.specs.Lawful.{Lawful}
use Rattle.graph_model.specs.declared.operation.Operation.{Operation}
use Rattle.graph_model.specs.declared.operation.Operation.TheVariants.{Or, Implies, Equiv, Xor}
use Rattle.graph_model.specs.declared.refusal.Refusal.{Refusal}
use Rattle.graph_model.specs.Graphs.{State, nodes}
use Rattle.graph_model.specs.Requests.{and_of}
use Rattle.graph_model.specs.Operations.{Applied, counted, chained, nand_of, equiv_of, apply_of}
use Rattle.graph_model.specs.Settling.{Ands, no_node, answered, found, added, full}
use Rattle.graph_model.specs.WellFormed.{Well}
use Rattle.graph_model.proofs.Requests.{and_ands, ands_well}
use Rattle.aiger_lines.specs.declared.fields.Header.{Header}
use Rattle.aiger_check.proofs.Lines.{header_unique}
use Rattle.aiger_check.specs.declared.faults.CircuitFault.{CircuitFault}
use Rattle.aiger_check.specs.Circuits.{Item, input, output, gate}
use Rattle.aiger_check.specs.Checks.{notes}
use Rattle.aiger_check.specs.Calls.{opened}
use Rattle.aiger_check.specs.Files.{HeaderAt}
use Rattle.aiger_check.specs.Text.{lines}
use Rattle.aiger_read.specs.Requests.{Outcome, done, stopped, run, through}
use Rattle.aiger_read.specs.Reads.{Reads}
use Rattle.aiger_room.specs.declared.room.Room.{Room}
use Rattle.aiger_room.specs.Rooms.{room_of, no_room, RoomFor}
use Rattle.history_model.specs.declared.request.Request.{Request}
use Rattle.history_model.specs.declared.request.Request.TheVariants as request
use Rattle.history_model.specs.Histories.{Told, World, Happens, asked, operated, loaded, Moment, History}
use Rattle.history_model.proofs.Steps.{ands_of, steps}
use Rattle.request_lines.specs.declared.line.Opening.{Opening}
use Rattle.request_lines.specs.declared.line.Ask.TheVariants as an_ask
use Rattle.request_scripts.specs.declared.step.Step.{Step}
use Rattle.request_scripts.specs.declared.step.Step.TheVariants.{Ask, File, Misread}
use Rattle.request_scripts.specs.Steps.{Requests, Adds, operation_adds, places_for, Asks}
use Rattle.request_scripts.specs.Counts.{HasRoom}
use Rattle.request_scripts.proofs.Scripts.{size_within}
use Rattle.request_scripts.proofs.Counting.{size_step}

-- after an answer, a well-formed graph of so many pairs at most
record Grown (b : Window → Reply) (a : Result (Edge × ℕ) Refusal) (t : State) (k : ℕ) : Type 0 where
  well : Well b t
  most : length t.pairs ≤ k

up : {b : Window → Reply} {a : Result (Edge × ℕ) Refusal} {t : State} (k m : ℕ) → k ≤ m → Grown b a t k → Grown b a t m
up k m l g = record { well = g.well; most = omega (arith, g.most) }

ands_more : {b : Window → Reply} {s t : State} {x y : Edge} {a : Result (Edge × Bool) Refusal} → Ands b s x y a t → length t.pairs ≤ length s.pairs + 1
ands_more (no_node h) = omega arith
ands_more (answered i j g) = omega arith
ands_more (found n i j g h) = omega arith
ands_more {s = s} (added {p} i j g n l) = omega (arith, length-append s.pairs (p ∷ []))
ands_more (full i j g n l) = omega arith

grown_chained : {b : Window → Reply} (k : ℕ) (a : Result (Edge × ℕ) Refusal) (t : State) (next : Edge → ℕ → State → Applied) → Grown b a t k → ((e : Edge) (n : ℕ) → Grown b (next e n t).answer (next e n t).after k) → Grown b (chained a t next).answer (chained a t next).after k
grown_chained k (Ok a) t next f g = g a.0 a.1
grown_chained k (Err c) t next f g = f

abbrev RunGrown : ℕ → Outcome → Type 0
RunGrown k (done m t n) = length t.pairs ≤ k
RunGrown k (stopped j t) = length t.pairs ≤ k

run_up : (k m : ℕ) (o : Outcome) → k ≤ m → RunGrown k o → RunGrown m o
run_up k m (done p t n) l h = omega arith
run_up k m (stopped j t) l h = omega arith

module _ (b : Window → Reply) (lawful : Lawful b) where
  grown_and : (k : ℕ) (s : State) (x y : Edge) → Well b s → length s.pairs ≤ k → Grown b (counted (and_of b s x y).answer) (and_of b s x y).after (k + 1)
  grown_and k s x y well l = let h = and_ands b lawful s well x y in record { well = ands_well lawful well h; most = omega (arith, ands_more h) }

  grown_nand : (k : ℕ) (s : State) (x y : Edge) → Well b s → length s.pairs ≤ k → Grown b (nand_of b s x y).answer (nand_of b s x y).after (k + 1)
  unfolding nand_of
  grown_nand k s x y well l = let g = grown_and k s x y well l in record { well = g.well; most = g.most }

  -- three requests
  grown_equiv : (k : ℕ) (s : State) (x y : Edge) → Well b s → length s.pairs ≤ k → Grown b (equiv_of b s x y).answer (equiv_of b s x y).after (k + 3)
  unfolding equiv_of
  grown_equiv k s x y well l =
      let f = grown_nand k s x (complement y) well l in
      grown_chained (k + 3) _ _ _ (up (k + 1) (k + 3) (omega arith) f) (λ p u.
      let h = grown_nand (k + 1) _ (complement x) y f.well f.most in
      grown_chained (k + 3) _ _ _ (up (k + 1 + 1) (k + 3) (omega arith) h) (λ q v.
      let i = up (k + 1 + 1 + 1) (k + 3) (omega arith) (grown_and (k + 1 + 1) _ p q h.well h.most) in
      grown_chained (k + 3) _ _ _ i (λ e n. record { well = i.well; most = i.most })))

  grown_apply : (k : ℕ) (s : State) (op : Operation) (x y : Edge) → Well b s → length s.pairs ≤ k → length (apply_of b s op x y).after.pairs ≤ k + operation_adds op
  unfolding apply_of
  grown_apply k s Or x y well l = (grown_nand k s (complement x) (complement y) well l).most
  grown_apply k s Implies x y well l = (grown_nand k s x (complement y) well l).most
  grown_apply k s Equiv x y well l = (grown_equiv k s x y well l).most
  grown_apply k s Xor x y well l = (grown_equiv k s x y well l).most

  -- a file's requests add one pair each at most
  run_grown : (is : List Item) (n k : ℕ) (s : State) (m : List Edge) (a : ℕ) → Well b s → length s.pairs ≤ k → RunGrown (k + length is) (run b n is s m a)
  unfolding run
  run_grown [] n k s m a well l = omega arith
  run_grown (input v ∷ is) n k s m a well l = run_up (k + length is) _ _ (omega arith) (run_grown is (n + 1) k s m a well l)
  run_grown (output v ∷ is) n k s m a well l = run_up (k + length is) _ _ (omega arith) (run_grown is (n + 1) k s m a well l)
  run_grown (gate x y z ∷ is) n k s m a well l =
      let f = grown_and k s (through m y) (through m z) well l in
      at_gate n is m (x / 2) a (k + 1 + length is) (k + length (gate x y z ∷ is)) (and_of b s (through m y) (through m z)).after (and_of b s (through m y) (through m z)).answer (omega arith) (omega (arith, f.most))
      (λ e. run_grown is (n + 1) (k + 1) (and_of b s (through m y) (through m z)).after (set m (x / 2) e.0) (a + cond e.1 1 0) f.well f.most)
    where
      at_gate : (n : ℕ) (is : List Item) (m : List Edge) (x a i k : ℕ) (t : State) (q : Result (Edge × Bool) Refusal) → i ≤ k → length t.pairs ≤ k → ((e : Edge × Bool) → RunGrown i (run b (n + 1) is t (set m x e.0) (a + cond e.1 1 0)))
          → RunGrown k (elim q [ Ok e ↦ run b (n + 1) is t (set m x e.0) (a + cond e.1 1 0) | Err c ↦ stopped n t ])
      at_gate n is m x a i k t (Ok e) l h rest = run_up i k _ l (rest e)
      at_gate n is m x a i k t (Err c) l h rest = h

  read_grown : (bytes : List ℕ) (s : State) (m o : List Edge) (r : Result ℕ CircuitFault) (t : State) (m' o' : List Edge) (n : ℕ) → Well b s → ((h : Header) → HeaderAt (lines bytes) h → min h.ands 1000000 ≤ n) → length t.pairs ≤ 1000000 → Reads b bytes s m o r t m' o'
      → length t.pairs ≤ length s.pairs + n
  read_grown bytes s m o (Ok a) t m' o' n well most few (h, is, taken, filled) =
      let g : length t.pairs ≤ length s.pairs + length (drop (h.inputs + h.outputs) is) = subst (RunGrown (length s.pairs + length (drop (h.inputs + h.outputs) is))) filled.runs
      (run_grown (drop (h.inputs + h.outputs) is) (h.inputs + h.outputs) (length s.pairs) s (notes 0 is (opened h.max m)) 0 well (omega arith)) in
      omega (arith, g, few, most h taken.opens.header, taken.whole.count, length-drop (h.inputs + h.outputs) is)
  read_grown bytes s m o (Err f) t m' o' n well most few (inl (c, same)) = omega (arith, ap (λ (z : State). length z.pairs) same)
  read_grown bytes s m o (Err f) t m' o' n well most few (inr (h, is, taken, stop)) =
      let g : length t.pairs ≤ length s.pairs + length (drop (h.inputs + h.outputs) is) = subst (RunGrown (length s.pairs + length (drop (h.inputs + h.outputs) is))) stop.runs
      (run_grown (drop (h.inputs + h.outputs) is) (h.inputs + h.outputs) (length s.pairs) s (notes 0 is (opened h.max m)) 0 well (omega arith)) in
      omega (arith, g, few, most h taken.opens.header, taken.whole.count, length-drop (h.inputs + h.outputs) is)

  module _ {W : Type 0} (j : BooleanAlgebra W) where
    -- n is as much as a request adds
    abbrev MostAdds : Request W → ℕ → Type 0
    MostAdds (request.And x y) n = 1 ≤ n
    MostAdds (request.Apply op x y) n = operation_adds op ≤ n
    MostAdds (request.Read bytes places outs) n = (h : Header) → HeaderAt (lines bytes.now) h → min h.ands 1000000 ≤ n
    MostAdds r n = Unit {0}

    grows : {v w : World} {r : Request W} {a : Told W} (n : ℕ) → Well b v.graph → MostAdds r n → length w.graph.pairs ≤ 1000000 → Happens j b v r a w → length w.graph.pairs ≤ length v.graph.pairs + n
    grows {v} n well most few (asked {x} {y} {a} {t} p q) = omega (arith, most, ands_more (ands_of b lawful v.graph t x y a well p q))
    grows {v} n well most few (operated {op} {x} {y} {a} {t} p q) = omega (arith, most, grown_apply (length v.graph.pairs) v.graph op x y well (omega arith), ap (λ (z : State). length z.pairs) q)
    grows {v} n well most few (loaded {bytes} {places} {outs} {r} {t} {map} {outputs} {last} d l) = read_grown bytes.now v.graph _ _ r t map outputs n well most few d
    grows n well most few h = omega arith

    file_adds : (bytes bytes' : List ℕ) (s : Room) (n : ℕ) → bytes ≡ bytes' → RoomFor bytes' s → n ≡ s.gates → (h : Header) → HeaderAt (lines bytes) h → min h.ands 1000000 ≤ n
    file_adds bytes bytes' s n e named a h at =
        let H : List ℕ → Type 0 = λ z. HeaderAt (lines z) h in
        let here = subst H e at in
        ⊎_elim
        (λ (x : (g : Header) × HeaderAt (lines bytes') g × (s ≡ room_of g)). omega (arith, a, ap (λ (z : Room). z.gates) x.2, ap (λ (z : Header). z.ands) (header_unique (get_or (lines bytes') 0 []) h x.0 here x.1)))
        (λ (x : ((g : Header) → HeaderAt (lines bytes') g → ⊥) × (s ≡ no_room)). absurd (x.0 h here))
        named

    adds_most : (s : Step) (places n : ℕ) (p : Request W) → Requests s places (Some p) → Adds s n → MostAdds p n
    adds_most (Ask (an_ask.And x y)) places n p q a = subst (λ z. MostAdds z n) (sym q) (omega arith)
    adds_most (Ask (an_ask.Apply op x y)) places n p q a = subst (λ z. MostAdds z n) (sym q) (omega arith)
    adds_most (Ask (an_ask.Evaluate v)) places n p q a = subst (λ z. MostAdds z n) (sym q.2) tt
    adds_most (Ask (an_ask.Write v)) places n p q a = subst (λ z. MostAdds z n) (sym q.2) tt
    adds_most (Ask r) places n p q a = subst (λ z. MostAdds z n) (sym q) tt
    adds_most (File v) places n p (bytes, s, e, named, is) (s', named', a) = subst (λ z. MostAdds z n) (sym is) (file_adds bytes.now (vec_items v) s' n e named' a)
    adds_most (Misread k) places n p q a = absurd q

    room_held : (s : Step) (places n : ℕ) (p : Request W) → Requests s places (Some p) → n ≤ places → HasRoom p n
    room_held (Ask (an_ask.Evaluate v)) places n p q l = subst (λ z. HasRoom z n) (sym q.2) l
    room_held (Ask (an_ask.Compare x y)) places n p q l = subst (λ z. HasRoom z n) (sym q) l
    room_held (Ask (an_ask.Table e)) places n p q l = subst (λ z. HasRoom z n) (sym q) l
    room_held (Ask (an_ask.Write v)) places n p q l = subst (λ z. HasRoom z n) (sym q.2) tt
    room_held (Ask r) places n p q l = subst (λ z. HasRoom z n) (sym q) tt
    room_held (File v) places n p (bytes, s, e, named, is) l = subst (λ z. HasRoom z n) (sym is) tt
    room_held (Misread k) places n p q l = absurd q

    -- what holds before each request: the graph has no more pairs than those before it can have added
    pub record Fits (o : Opening) (most : ℕ) (s : State) : Type 0 where
      pub well : Well b s
      pub inputs : s.inputs ≡ min o.inputs 4096
      pub limit : s.limit ≤ min o.records 1000000
      pub within : length s.pairs ≤ s.limit
      pub few : length s.pairs ≤ most

    abbrev pub EachHasRoom : List (Moment W) → Type 0
    EachHasRoom ms = AllByRecursion (λ (m : Moment W). HasRoom m.request (nodes m.before.graph)) ms

    -- from each moment on
    pub rooms : (o : Opening) (most : ℕ) (ss : List Step) (rs : List (Request W)) (ms : List (Moment W)) (v w : World) → Asks o most ss rs → Fits o most v.graph → History j b v rs ms w → EachHasRoom ms
    rooms o most [] rs ms v w e f h = none ms (subst (λ (z : List (Request W)). History j b v z ms w) e h)
      where
        none : (ms : List (Moment W)) → History j b v [] ms w → EachHasRoom ms
        none [] d = tt
        none (m ∷ ms) d = absurd d
    rooms o most (s ∷ ss) rs ms v w (None, rest, n, e, q, a, more) f h =
        rooms o (min (most + n) 1000000) ss rest ms v w more (record { well = f.well; inputs = f.inputs; limit = f.limit; within = f.within; few = omega (arith, f.few, f.within, f.limit) }) (subst (λ (z : List (Request W)). History j b v z ms w) e h)
    rooms o most (s ∷ ss) rs ms v w (Some p, rest, n, e, q, a, more) f h =
        first ms (λ x ms. rooms o (min (most + n) 1000000) ss rest ms x w more) (subst (λ (z : List (Request W)). History j b v z ms w) e h)
      where
        first : (ms : List (Moment W)) → ((x : World) (ms : List (Moment W)) → Fits o (min (most + n) 1000000) x.graph → History j b x rest ms w → EachHasRoom ms) → History j b v (p ∷ rest) ms w → EachHasRoom ms
        first [] later d = absurd d
        first (m ∷ ms) later d =
            let fits : Fits o most m.before.graph = subst (λ (z : World). Fits o most z.graph) (sym d.0) f in
            let next = steps b lawful bit_algebra j fits.well d.2 in
            let size = size_step b lawful j fits.well fits.within d.2 in
            let within : length m.after.graph.pairs ≤ m.before.graph.limit = omega (arith, size, size_within m.before.graph.limit (length m.before.graph.pairs) m.answer fits.within) in
            let more_pairs : length m.after.graph.pairs ≤ length m.before.graph.pairs + n = grows n fits.well (subst (λ z. MostAdds z n) (sym d.1) (adds_most s (places_for o most) n p q a)) (omega (arith, within, fits.limit)) d.2 in (
              subst (λ z. HasRoom z (nodes m.before.graph)) (sym d.1) (room_held s (places_for o most) (nodes m.before.graph) p q (omega (arith, fits.inputs, fits.few, fits.limit, fits.within))),
              later m.after ms
                  (record {
                    well = next.well;
                    inputs = next.extends.inputs ∙ fits.inputs;
                    limit = omega (arith, next.extends.limit, fits.limit);
                    within = omega (arith, within, next.extends.limit);
                    few = omega (arith, more_pairs, fits.few, within, fits.limit);
                  })
                  d.3,
            )
