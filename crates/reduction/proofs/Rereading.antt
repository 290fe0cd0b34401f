-- A written text that is read back.
use Rattle.std.proofs.Common.{◌≡◌, ℕ, ◌+◌, ◌*◌, ◌≤◌, true, List, [], ◌∷◌, map, length, take, is_ok, Ok, Err, Result, sym, refl, ap, ◌∙◌, subst, arith, Bor}
use lib.ListN.{length-replicate}
use Rattle.std.proofs.lemmas.Bool.{false≢true}
use Rattle.values.specs.Algebra.{BooleanAlgebra}
use Rattle.values.specs.Bit.{bit_algebra}
use Rattle.rules.specs.declared.edge.Edge.{Edge}
use Rattle.rules.specs.declared.window.Window.{Window}
use Rattle.rules.specs.declared.window.Reply.{Reply}
use Rattle.rules.specs.Lawful.{Lawful}
use Rattle.graph_model.specs.Graphs.{State}
use Rattle.graph_model.specs.WellFormed.{Well, new_state}
use Rattle.graph_model.proofs.Requests.{empty_well}
use Rattle.aiger_check.specs.declared.faults.CircuitFault.{CircuitFault}
use Rattle.aiger_read.specs.Meaning.{ReadDoes}
use Rattle.aiger_read.specs.Reads.{Reads}
use Rattle.aiger_read.specs.RoundTrip.{Again}
use Rattle.aiger_read.proofs.Happens.{files_mean}
use Rattle.aiger_read.proofs.OneReading.{one_reading}
use Rattle.aiger_read.proofs.Trips.{round_trips}
use Rattle.aiger_write.specs.Writing.{text_of}
use Rattle.history_model.specs.declared.request.Request.{Request}
use Rattle.history_model.specs.declared.request.Request.TheVariants.{Read}
use Rattle.history_model.specs.Histories.{Told, read, World, Happens, loaded, Moment, History}
use Rattle.history_model.specs.Law.{Ran}
use Rattle.reduction.specs.declared.limits.Limits.{Limits}
use Rattle.reduction.specs.Reductions.{blank, Same}
use Rattle.reduction.specs.Rereads.{Rereadable}

-- what came of one file
pub record OneFile {W : Type 0} (b : Window → Reply) (s : State) (bytes : List ℕ) (places outs : ℕ) (ts : List (Told W)) (t : State) : Type 0 where
  pub answer : Result ℕ CircuitFault
  pub map : List Edge
  pub outputs : List Edge
  pub reads : Reads b bytes s (blank places) (blank outs) answer t map outputs
  pub told_is : ts ≡ read answer map outputs ∷ []

one_happened : {W : Type 0} {j : BooleanAlgebra W} (b : Window → Reply) (v w : World) (bytes : Bor (List ℕ)) (places outs : ℕ) (a : Told W) → Happens j b v (Read bytes places outs) a w → OneFile b v.graph bytes.now places outs (a ∷ []) w.graph
one_happened b v w bytes places outs a (loaded {r = r} {map = m} {outputs = o} h l) = record { answer = r; map = m; outputs = o; reads = h; told_is = refl }

pub one_file : {V W : Type 0} (k : BooleanAlgebra V) {j : BooleanAlgebra W} (b : Window → Reply) (v : World) (bytes : Bor (List ℕ)) (places outs : ℕ) (ts : List (Told W)) (t : State) → Ran k j b v (Read bytes places outs ∷ []) ts t → OneFile b v.graph bytes.now places outs ts t
one_file {W = W} k {j} b v bytes places outs ts t r = go r.moments r.history r.answered
  where
    go : (ms : List (Moment W)) → History j b v (Read bytes places outs ∷ []) ms r.last → ts ≡ map (λ m. m.answer) ms → OneFile b v.graph bytes.now places outs ts t
    go [] h e = absurd h
    go (m ∷ []) h e =
        let P : World → Type 0 = λ z. Happens j b z m.request m.answer m.after in
        let Q : Request W → Type 0 = λ z. Happens j b v z m.answer m.after in
        let T : State → Type 0 = λ z. OneFile b v.graph bytes.now places outs (m.answer ∷ []) z in
        let L : List (Told W) → Type 0 = λ z. OneFile b v.graph bytes.now places outs z t in
        subst L (sym e) (subst T (sym (r.graph ∙ ap (λ (z : World). z.graph) h.3)) (one_happened b v m.after bytes places outs m.answer (subst Q h.1 (subst P h.0 h.2))))
    go (m ∷ n ∷ ms) h e = absurd h.3

-- a new graph is well-formed under any rules
pub new_well : (b : Window → Reply) (inputs limit max_edge : ℕ) → 2 * (limit + 4096) + 1 ≤ max_edge → Well b (new_state inputs limit max_edge)
new_well b inputs limit max_edge roomy = empty_well b (new_state inputs limit max_edge) refl (omega arith)

-- a text that can be read back is read back
pub reread_again : {W : Type 0} (b : Window → Reply) → Lawful b → (s : State) (os : List Edge) (text : List ℕ) (l : Limits) (limit max_edge : ℕ) (inputs : ℕ) (ts : List (Told W)) (t : State) → 2 * (limit + 4096) + 1 ≤ max_edge → inputs ≡ s.inputs
    → Rereadable b s os text l limit → (f : OneFile b (new_state inputs limit max_edge) text l.places l.outputs ts t) → Again s os f.answer t f.outputs
reread_again b lawful s os text l limit max_edge inputs ts t roomy e p f =
    let I : ℕ → Type 0 = λ z. Reads b text (new_state z limit max_edge) (blank l.places) (blank l.outputs) f.answer t f.map f.outputs in
    let T : List ℕ → Type 0 = λ z. Reads b z (new_state s.inputs limit max_edge) (blank l.places) (blank l.outputs) f.answer t f.map f.outputs in
    let h = subst T p.text_is (subst I e f.reads) in
    let u = new_state s.inputs limit max_edge in
    round_trips b lawful s os u (blank l.places) (blank l.outputs) f.answer t f.map f.outputs p.well p.writable (new_well b s.inputs limit max_edge roomy)
    (record {
      inputs = omega (arith, p.writable.inputs);
      new = refl;
      limit = p.records;
      map = simp length-replicate p.places;
      outputs = simp length-replicate p.outputs;
    }) h

-- a text that can be read as the same was read so
pub same_again : {W : Type 0} (b : Window → Reply) (s : State) (os : List Edge) (text : List ℕ) (l : Limits) (limit max_edge : ℕ) (inputs : ℕ) (ts : List (Told W)) (t : State) → inputs ≡ s.inputs → text ≡ text_of s os
    → (f : OneFile b (new_state inputs limit max_edge) text l.places l.outputs ts t) → Same b s os l limit max_edge → Again s os f.answer t f.outputs
same_again b s os text l limit max_edge inputs ts t e x f p =
    let I : ℕ → Type 0 = λ z. Reads b text (new_state z limit max_edge) (blank l.places) (blank l.outputs) f.answer t f.map f.outputs in
    let T : List ℕ → Type 0 = λ z. Reads b z (new_state s.inputs limit max_edge) (blank l.places) (blank l.outputs) f.answer t f.map f.outputs in
    let same = one_reading b (text_of s os) (new_state s.inputs limit max_edge) (blank l.places) (blank l.outputs) p.answer f.answer p.graph t p.map f.map p.outputs f.outputs p.reads (subst T x (subst I e f.reads)) in
    let R : Result ℕ CircuitFault → Type 0 = λ z. Again s os z p.graph p.outputs in
    let G : State → Type 0 = λ z. Again s os f.answer z p.outputs in
    let O : List Edge → Type 0 = λ z. Again s os f.answer t z in
    subst O same.3 (subst G same.1 (subst R same.0 p.again))

-- a text that was read as the same pairs and outputs is read back
pub read_back : {W : Type 0} (b : Window → Reply) → Lawful b → (s : State) (os : List Edge) (text : List ℕ) (l : Limits) (limit max_edge : ℕ) (inputs : ℕ) (ts : List (Told W)) (t : State) → 2 * (limit + 4096) + 1 ≤ max_edge → inputs ≡ s.inputs → inputs ≤ 4096
    → text ≡ text_of s os → (f : OneFile b (new_state inputs limit max_edge) text l.places l.outputs ts t) → is_ok f.answer ≡ true → s.pairs ≡ t.pairs → take (length os) f.outputs ≡ os → Same b s os l limit max_edge
read_back b lawful s os text l limit max_edge inputs ts t roomy e few x f ok pairs front =
    let I : ℕ → Type 0 = λ z. Reads b text (new_state z limit max_edge) (blank l.places) (blank l.outputs) f.answer t f.map f.outputs in
    let T : List ℕ → Type 0 = λ z. Reads b z (new_state s.inputs limit max_edge) (blank l.places) (blank l.outputs) f.answer t f.map f.outputs in
    let h = subst T x (subst I e f.reads) in
    record { answer = f.answer; graph = t; map = f.map; outputs = f.outputs; reads = h; again = go f.answer ok (files_mean bit_algebra b lawful (text_of s os) (new_state s.inputs limit max_edge) (blank l.places) (blank l.outputs) f.answer t f.map f.outputs (new_well b s.inputs limit max_edge roomy) h) }
  where
    go : (r : Result ℕ CircuitFault) → is_ok r ≡ true → ReadDoes bit_algebra b (text_of s os) (new_state s.inputs limit max_edge) (blank l.places) (blank l.outputs) r t f.map f.outputs → Again s os r t f.outputs
    go (Ok n) o d = record { answer = ap Ok (omega (arith, d.counts, ap length pairs)); inputs = omega (arith, d.extends.inputs); pairs = sym pairs; outputs = front }
    go (Err c) o d = absurd (false≢true o)

pub one_answer : {W : Type 0} (ts : List (Told W)) (r r' : Result ℕ CircuitFault) (m m' o o' : List Edge) → ts ≡ read r m o ∷ [] → ts ≡ read r' m' o' ∷ [] → (r ≡ r') × (o ≡ o')
one_answer ts r r' m m' o o' p q = (cc, cc)
