-- A graph's text is taken as that graph, and nothing else can be read of it.
use Rattle.std.proofs.Common.{◌≡◌, ℕ, zero, suc, ◌+◌, ◌*◌, ◌<◌, ◌≤◌, true, ltb, List, [], ◌∷◌, ◌++◌, map, length, get_or, take, drop, Some, Ok, Err, Result, sym, refl, ap, ◌∙◌, subst, inl, inr, arith, length-drop}
use Rattle.std.proofs.lemmas.List.{ext_get_or, get_or-take, take_at, take_all, length-map, length-take-le}
use Rattle.std.proofs.lemmas.Bool.{and_parts, cond_both, ltb-true, ltb-false}
use Rattle.std.specs.List.{slice_get}
use Rattle.rules.specs.declared.edge.Edge.{Edge}
use Rattle.rules.specs.declared.pair.Pair.{Pair}
use Rattle.rules.specs.declared.window.Window.{Window}
use Rattle.rules.specs.declared.window.Reply.{Reply}
use Rattle.rules.specs.Edges.{false_edge, node}
use Rattle.rules.specs.Lawful.{Lawful}
use Rattle.graph_model.specs.declared.refusal.Refusal.{Refusal}
use Rattle.graph_model.specs.declared.refusal.Refusal.TheVariants.{TooManyOutputs, NoNode, TextTooLong}
use Rattle.graph_model.specs.Graphs.{State, nodes, Inside}
use Rattle.graph_model.specs.WellFormed.{Well}
use Rattle.aiger_lines.specs.declared.fields.Header.{Header}
use Rattle.aiger_check.specs.declared.faults.CircuitFault.{CircuitFault}
use Rattle.aiger_check.specs.Circuits.{Item}
use Rattle.aiger_check.specs.Files.{Taken, literal}
use Rattle.aiger_check.proofs.Once.{taken_once, apart}
use Rattle.aiger_write.specs.Texts.{items, header_of}
use Rattle.aiger_write.specs.Writing.{text_of, all_inside, write_of, left, written}
use Rattle.aiger_write.proofs.Whole.{length-items}
use Rattle.aiger_read.specs.Requests.{through, done}
use Rattle.aiger_read.specs.Reads.{Reads, requests}
use Rattle.aiger_read.specs.RoundTrip.{Ordered, Drawn, Writable, Again, RoundTrips, WritesBack}
use Rattle.aiger_read.proofs.OneReading.{refused, done_is, not_both}
use Rattle.aiger_read.proofs.Back.{taken}
use Rattle.aiger_read.proofs.Graphs.{well_formed, output_is}
use Rattle.aiger_read.proofs.Happens.{output_of}
use Rattle.aiger_read.proofs.Restores.{first}
use Rattle.aiger_read.proofs.Rebuilds.{rebuilds}

-- the pairs of a well-formed graph point to earlier nodes
ordered : (ps : List Pair) (p : ℕ) → ((i : ℕ) (x : Pair) → slice_get ps i ≡ Some x → (node x.larger < p + i) × (node x.smaller < p + i)) → Ordered p ps
ordered [] p each = tt
ordered (x ∷ ps) p each =
    let here = each 0 x refl in
    (omega (arith, here.0), omega (arith, here.1), ordered ps (p + 1) (λ i y h. (let e = each (suc i) y h in (omega (arith, e.0), omega (arith, e.1)))))

drawn : (b : Window → Reply) (s : State) (os : List Edge) → Well b s → Writable s os → Drawn s.inputs s.pairs os
drawn b s os well w = record {
  inputs = w.inputs;
  size = w.size;
  count = w.count;
  ordered = ordered s.pairs (s.inputs + 1) well.earlier;
  known = λ j l. omega (arith, w.inside j l);
}

module _ (b : Window → Reply) (lawful : Lawful b) (s : State) (os : List Edge) (well : Well b s) (w : Writable s os) (limit max_edge : ℕ) (roomy : 2 * (limit + s.inputs) + 1 ≤ max_edge) (fits : length s.pairs ≤ limit) (m o : List Edge) (wide : s.inputs + length s.pairs < length m) (outs : length os ≤ length o) where
  abbrev h : Header
  h = header_of s.inputs s.pairs os

  abbrev is : List Item
  is = items s.inputs s.pairs os

  abbrev new : State
  new = first s limit max_edge 0

  pub is_taken : Taken (text_of s os) s.inputs (length m) (length o) h is
  unfolding text_of
  is_taken = taken h is (well_formed s.inputs s.pairs os (drawn b s os well w)) (length m) (length o) w.short (record { map = wide; outputs = outs })

  made : (m' : List Edge) × (requests b h is m new ≡ done m' (first s limit max_edge (length s.pairs)) (length s.pairs)) × ((e : Edge) → node e ≤ s.inputs + length s.pairs → through m' e.0 ≡ e)
  made = rebuilds b lawful s well limit max_edge roomy fits os (drawn b s os well w) m wide

  outputs_back : (m' rest : List Edge) → ((e : Edge) → node e ≤ s.inputs + length s.pairs → through m' e.0 ≡ e) → take (length os) (map (λ i. through m' (literal i)) (take (length os) (drop s.inputs is)) ++ rest) ≡ os
  outputs_back m' rest own =
      let many : s.inputs + length os ≤ length is = omega (arith, length-items s.inputs s.pairs os) in
      let front = map (λ i. through m' (literal i)) (take (length os) (drop s.inputs is)) in
      let long : length (map (λ i. through m' (literal i)) (take (length os) (drop s.inputs is))) ≡ length os = length-map (take (length os) (drop s.inputs is)) (λ i. through m' (literal i)) ∙ length-take-le (length os) (drop s.inputs is) (omega (arith, length-drop s.inputs is)) in
      ext_get_or false_edge (take (length os) (front ++ rest)) os
      (ap length (take_at front rest (length os) long) ∙ long)
      (λ j l.
      let below : j < length os = omega (arith, ap length (take_at front rest (length os) long), long) in
      get_or-take (length os) (front ++ rest) j false_edge below
      ∙ output_of (λ i. through m' (literal i)) is rest s.inputs (length os) j many below
      ∙ ap (λ i. through m' (literal i)) (output_is s.inputs s.pairs os (drawn b s os well w) j below)
      ∙ own (get_or os j false_edge) (omega (arith, w.inside j below)))

  trip : (r : Result ℕ CircuitFault) (t : State) (m' o' : List Edge) → Reads b (text_of s os) new m o r t m' o' → Again s os r t o'
  trip (Ok n) t m' o' (g, js, took, filled) =
      let e = taken_once (text_of s os) s.inputs (length m) (length o) g h js is took is_taken in
      let same : done m' t n ≡ done made.0 (first s limit max_edge (length s.pairs)) (length s.pairs) = sym filled.runs ∙ (λ i. requests b (e.0 i) (e.1 i) m new) ∙ made.1 in
      let parts = done_is same in
      record {
        answer = ap Ok parts.2;
        inputs = ap (λ u. u.inputs) parts.1;
        pairs = ap (λ u. u.pairs) parts.1 ∙ take_all (length s.pairs) s.pairs (omega arith);
        outputs =
            ap (take (length os)) (filled.outputs ∙ (λ i. map (λ x. through (parts.0 i) (literal x)) (take (e.0 i).outputs (drop (e.0 i).inputs (e.1 i))) ++ drop (e.0 i).outputs o))
            ∙ outputs_back made.0 (drop (length os) o) made.2;
      }
  trip (Err f) t m' o' (inl (c, same)) = absurd (apart (text_of s os) s.inputs (length m) (length o) h is f is_taken (refused (text_of s os) s.inputs m o f m' o' c))
  trip (Err f) t m' o' (inr (g, js, took, stop)) =
      let e = taken_once (text_of s os) s.inputs (length m) (length o) g h js is took is_taken in
      absurd (not_both (sym made.1 ∙ (λ i. requests b (sym e.0 i) (sym e.1 i) m new) ∙ stop.runs))

pub round_trips : (b : Window → Reply) → Lawful b → RoundTrips b
round_trips b lawful s os u m o r t m' o' well w new room reads =
    let same : u ≡ first s u.limit u.max_edge 0 = (λ i. record { inputs = room.inputs i; pairs = room.new i; limit = u.limit; max_edge = u.max_edge }) in
    trip b lawful s os well w u.limit u.max_edge (omega (arith, new.roomy, room.inputs)) room.limit m o room.map room.outputs r t m' o' (subst (λ v. Reads b (text_of s os) v m o r t m' o') same reads)

pub all_known : (s : State) (os : List Edge) → all_inside s os ≡ true → (j : ℕ) → j < length os → Inside s (get_or os j false_edge)
all_known s [] all j l = absurd (omega arith)
all_known s (e ∷ os) all zero l = ltb-true (node e) (nodes s) (and_parts (ltb (node e) (nodes s)) (all_inside s os) all).0
all_known s (e ∷ os) all (suc j) l = all_known s os (and_parts (ltb (node e) (nodes s)) (all_inside s os) all).1 j (omega arith)

-- what is known where a text was written
pub record Wrote (s : State) (os : List Edge) (buffer : List ℕ) (n : ℕ) : Type 0 where
  pub fits : n ≤ length buffer
  pub count : length os ≤ 4096
  pub inside : all_inside s os ≡ true
  pub long : n ≡ length (text_of s os)

pub wrote : (s : State) (os : List Edge) (buffer : List ℕ) (n : ℕ) → write_of s os buffer ≡ Ok n → Wrote s os buffer n
unfolding write_of
wrote s os buffer n =
    cond_both (ltb 4096 (length os)) _ _ (λ r. r ≡ Ok n → Wrote s os buffer n)
    (λ many e. absurd (refused_not TooManyOutputs n e))
    (λ few. cond_both (all_inside s os) _ _ (λ r. r ≡ Ok n → Wrote s os buffer n)
    (λ all. cond_both (ltb (length buffer) (length (text_of s os))) _ _ (λ r. r ≡ Ok n → Wrote s os buffer n)
    (λ long e. absurd (refused_not TextTooLong n e))
    (λ short e. let l = ok_is e in record { fits = omega (arith, ltb-false _ _ short); count = ltb-false 4096 (length os) few; inside = all; long = l }))
    (λ out e. absurd (refused_not NoNode n e)))
  where
    refused_not : (c : Refusal) (k : ℕ) → ◌≡◌ {A = Result ℕ Refusal} (Err c) (Ok k) → ⊥
    refused_not c k e = let z : ◌≡◌ {A = ℕ} 0 1 = cc in omega arith

    ok_is : {k l : ℕ} → ◌≡◌ {A = Result ℕ Refusal} (Ok k) (Ok l) → l ≡ k
    ok_is e = cc

-- the text stands at the front of its buffer
pub wrote_front : (s : State) (os : List Edge) (buffer : List ℕ) (n : ℕ) → write_of s os buffer ≡ Ok n → take n (written s os buffer) ≡ text_of s os
wrote_front s os buffer n ok = ap (λ q. take n (left (text_of s os) buffer q)) ok ∙ take_at (text_of s os) (drop n buffer) n (sym (wrote s os buffer n ok).long)

pub writes_back : (b : Window → Reply) → Lawful b → WritesBack b
writes_back b lawful s os buffer n u m o r t m' o' well few most ok short new room reads =
    let w = wrote s os buffer n ok in
    round_trips b lawful s os u m o r t m' o' well
    (record { inputs = few; size = most; count = w.count; inside = all_known s os w.inside; short = omega (arith, w.long) })
    new room (subst (λ bs. Reads b bs u m o r t m' o') (wrote_front s os buffer n ok) reads)
