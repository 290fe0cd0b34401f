-- A file that is read and the text of the graph after it: what the two answers come to.
use Rattle.std.proofs.Common.{◌≡◌, ℕ, ◌+◌, ◌*◌, ◌≤◌, Bool, true, false, if◌then◌else◌, Vec, List, [], ◌∷◌, map, length, min, get_or, take, replicate, IfErr, Ok, Err, vec_items, Result, sym, refl, ap, ◌∙◌, subst, ap₂, arith, length-take, Bor}
use lib.ListN.{length-replicate}
use Rattle.std.specs.declared.alloc.AllocError.{AllocError}
use Rattle.std.specs.declared.alloc.Global.{Global}
use Rattle.std.proofs.lemmas.Bool.{false≢true}
use Rattle.values.specs.Algebra.{BooleanAlgebra}
use Rattle.values.specs.Bit.{bit_algebra}
use Rattle.rules.specs.declared.edge.Edge.{Edge}
use Rattle.rules.specs.declared.window.Window.{Window}
use Rattle.rules.specs.declared.window.Reply.{Reply}
use Rattle.rules.specs.Lawful.{Lawful}
use Rattle.graph_model.specs.declared.refusal.Refusal.{Refusal}
use Rattle.graph_model.specs.Graphs.{State}
use Rattle.graph_model.specs.WellFormed.{Well, new_state}
use Rattle.aiger_lines.specs.declared.fields.Header.{Header}
use Rattle.aiger_check.specs.declared.faults.CircuitFault.{CircuitFault}
use Rattle.aiger_check.specs.Text.{lines}
use Rattle.aiger_check.proofs.Lines.{header_unique}
use Rattle.aiger_room.specs.declared.room.Room.{Room}
use Rattle.aiger_room.specs.Rooms.{RoomFor}
use Rattle.aiger_room.proofs.Rooms.{all_outputs}
use Rattle.aiger_read.specs.Meaning.{ReadDoes}
use Rattle.aiger_read.specs.Reads.{Reads}
use Rattle.aiger_read.specs.RoundTrip.{Writable}
use Rattle.aiger_read.proofs.Happens.{files_mean}
use Rattle.aiger_read.proofs.Trips.{wrote, wrote_front, all_known}
use Rattle.aiger_write.specs.Writing.{text_of, write_of, written as text_written}
use Rattle.history_model.specs.declared.request.Outputs.TheVariants.{LastFile}
use Rattle.history_model.specs.declared.request.Request.{Request}
use Rattle.history_model.specs.declared.request.Request.TheVariants.{Read, Write}
use Rattle.history_model.specs.Histories.{Told, read, written, World, LastOutputs, Happens, loaded, saved, Moment, History, new_world}
use Rattle.history_model.specs.Law.{Ran}
use Rattle.reduction.specs.declared.limits.Limits.{Limits}
use Rattle.reduction.specs.declared.error.ReduceError.{ReduceError}
use Rattle.reduction.specs.declared.error.ReduceError.TheVariants.{Refused, ReadsBackOtherwise, Memory}
use Rattle.reduction.specs.declared.error.Refused.TheVariants.{File, Write as Unwritten}
use Rattle.reduction.specs.declared.reduce.Parts.{Parts}
use Rattle.reduction.specs.Reductions.{blank, Built, Builds, Wrote, Roomy, Reduces}
use Rattle.reduction.specs.Rereads.{Rereadable, Tells, of_parts}
use Rattle.reduction.proofs.Rereading.{new_well}

-- what came of one file and the text of the graph after it
pub record FileThenText {W : Type 0} (b : Window → Reply) (s : State) (bytes : List ℕ) (places outs room : ℕ) (ts : List (Told W)) (t : State) : Type 0 where
  pub answer : Result ℕ CircuitFault
  pub map : List Edge
  pub outputs : List Edge
  pub last : List Edge
  pub reads : Reads b bytes s (blank places) (blank outs) answer t map outputs
  pub last_is : LastOutputs bytes answer outputs [] last
  pub told_is : ts ≡ read answer map outputs ∷ (written (write_of t last (replicate room 0)) (text_written t last (replicate room 0)) ∷ [])

two_happened : {W : Type 0} {j : BooleanAlgebra W} (b : Window → Reply) (v w x : World) (bytes : Bor (List ℕ)) (places outs room : ℕ) (a c : Told W) → v.outputs ≡ [] → Happens j b v (Read bytes places outs) a w → Happens j b w (Write LastFile room) c x
    → FileThenText b v.graph bytes.now places outs room (a ∷ (c ∷ [])) x.graph
two_happened b v w x bytes places outs room a c none (loaded {r = r} {map = m} {outputs = o} {last = os} h l) (saved p q) = record {
  answer = r;
  map = m;
  outputs = o;
  last = os;
  reads = h;
  last_is = subst (λ z. LastOutputs bytes.now r o z os) none l;
  told_is = ap₂ (λ y z. read r m o ∷ (written y z ∷ [])) p q;
}

pub file_then_text : {V W : Type 0} (k : BooleanAlgebra V) {j : BooleanAlgebra W} (b : Window → Reply) (v : World) (bytes : Bor (List ℕ)) (places outs room : ℕ) (ts : List (Told W)) (t : State) → v.outputs ≡ [] → Ran k j b v (Read bytes places outs ∷ (Write LastFile room ∷ [])) ts t
    → FileThenText b v.graph bytes.now places outs room ts t
file_then_text {W = W} k {j} b v bytes places outs room ts t none r = go r.moments r.history r.answered
  where
    go : (ms : List (Moment W)) → History j b v (Read bytes places outs ∷ (Write LastFile room ∷ [])) ms r.last → ts ≡ map (λ m. m.answer) ms → FileThenText b v.graph bytes.now places outs room ts t
    go [] h e = absurd h
    go (m ∷ []) h e = absurd h.3
    go (m ∷ n ∷ []) h e =
        let P : World → Type 0 = λ z. Happens j b z m.request m.answer m.after in
        let Q : Request W → Type 0 = λ z. Happens j b v z m.answer m.after in
        let S : World → Type 0 = λ z. Happens j b z n.request n.answer n.after in
        let U : Request W → Type 0 = λ z. Happens j b m.after z n.answer n.after in
        let T : State → Type 0 = λ z. FileThenText b v.graph bytes.now places outs room (m.answer ∷ (n.answer ∷ [])) z in
        let L : List (Told W) → Type 0 = λ z. FileThenText b v.graph bytes.now places outs room z t in
        let i = h.3 in
        subst L (sym e) (subst T (sym (r.graph ∙ ap (λ (z : World). z.graph) i.3))
        (two_happened b v m.after n.after bytes places outs room m.answer n.answer none (subst Q h.1 (subst P h.0 h.2)) (subst U i.1 (subst S i.0 i.2))))
    go (m ∷ n ∷ o ∷ ms) h e = absurd h.3.3

-- the parts that were taken from the two answers
same_parts : {W : Type 0} (ts : List (Told W)) (r r' : Result ℕ CircuitFault) (m m' o o' : List Edge) (w w' : Result ℕ Refusal) (x x' : List ℕ) → ts ≡ read r m o ∷ (written w x ∷ []) → ts ≡ read r' m' o' ∷ (written w' x' ∷ []) → (r ≡ r') × (o ≡ o') × (w ≡ w') × (x ≡ x')
same_parts ts r r' m m' o o' w w' x x' p q = (cc, cc, cc, cc)

well_of : (b : Window → Reply) (bytes : List ℕ) (s : State) (m o : List Edge) (r : Result ℕ CircuitFault) (t : State) (m' o' : List Edge) → ReadDoes bit_algebra b bytes s m o r t m' o' → Well b t
well_of b bytes s m o (Ok n) t m' o' d = d.well
well_of b bytes s m o (Err f) t m' o' d = d.well

-- a text that reads back as the same or otherwise
abbrev pub ended : Vec ℕ Global → Bool → Result (Vec ℕ Global) ReduceError
ended text same = if same then Ok text else Err (ReadsBackOtherwise text)

module _ (b : Window → Reply) (lawful : Lawful b) (bytes : List ℕ) (l : Limits) (limit max_edge : ℕ) (capped : limit ≤ 1000000) (roomy : 2 * (limit + 4096) + 1 ≤ max_edge) (t : State) where
  -- what was written of a graph can stand in a file
  pub can_write : (os : List Edge) (text : List ℕ) → length t.pairs ≤ t.limit → Wrote b bytes l limit max_edge t os text → length (text_of t os) ≤ 1048576 → Writable t os
  can_write os text within w short =
      let f = w.builds in
      let m = files_mean bit_algebra b lawful bytes (new_state f.built.room.inputs limit max_edge) (blank l.places) (blank l.outputs) (Ok f.added) t f.built.map f.outputs (new_well b f.built.room.inputs limit max_edge roomy) f.built.reads in
      let x = wrote t os (replicate l.text 0) (length text) w.answer in
      record { inputs = omega (arith, m.extends.inputs); size = omega (arith, m.extends.limit); count = x.count; inside = all_known t os x.inside; short = short }

  -- and be read back where there is room
  can_reread : (spare : ℕ) (os : List Edge) (text : List ℕ) → length t.pairs ≤ t.limit → Wrote b bytes l limit max_edge t os text → Roomy l limit spare → Rereadable b t os text l spare
  can_reread spare os text within w room =
      let f = w.builds in
      let m = files_mean bit_algebra b lawful bytes (new_state f.built.room.inputs limit max_edge) (blank l.places) (blank l.outputs) (Ok f.added) t f.built.map f.outputs (new_well b f.built.room.inputs limit max_edge roomy) f.built.reads in
      let x = wrote t os (replicate l.text 0) (length text) w.answer in
      let same : f.header.outputs ≡ f.built.reads.0.outputs = ap (λ (z : Header). z.outputs) (header_unique (get_or (lines bytes) 0 []) f.header f.built.reads.0 f.headed f.built.reads.2.opens.header) in
      let front : length os ≡ min f.header.outputs (length f.outputs) = ap length f.named ∙ length-take f.header.outputs f.outputs in
      let long : length text ≤ l.text = simp length-replicate at x.fits in
      record {
        well = f.built.well;
        writable = can_write os text within w (omega (arith, x.long, long, room.text));
        text_is = w.text_is;
        records = omega (arith, m.extends.limit, room.records);
        places = omega (arith, m.extends.inputs, m.extends.limit, room.places);
        outputs = omega (arith, front, same, simp length-replicate at f.built.reads.2.opens.room.outputs);
      }

  -- the text, or why it is none, by what was read back
  pub reread_as : (spare spare_max : ℕ) (os : List Edge) (text : Vec ℕ Global) (same : Bool) → length t.pairs ≤ t.limit → Wrote b bytes l limit max_edge t os (vec_items text) → Tells b t os (vec_items text) l spare spare_max same
      → Reduces b bytes l limit max_edge spare spare_max (ended text same)
  reread_as spare spare_max os text true within w d = Reduces.written w ((d.0 w.text_is).0 refl)
  reread_as spare spare_max os text false within w d = Reduces.otherwise w (λ s. false≢true ((d.0 w.text_is).1 s)) (λ room. false≢true (d.1 (can_reread spare os (vec_items text) within w room)))

-- what was told of slices, by what they are of
pub told_of : (b : Window → Reply) (t : State) (os os' : List Edge) (text text' : List ℕ) (l : Limits) (spare spare_max : ℕ) (same again : Bool) → os' ≡ os → text' ≡ text → same ≡ again → Tells b t os' text' l spare spare_max same → Tells b t os text l spare spare_max again
told_of b t os os' text text' l spare spare_max same again p q e tells =
    let O : List Edge → Type 0 = λ z. Tells b t z text' l spare spare_max same in
    let T : List ℕ → Type 0 = λ z. Tells b t os z l spare spare_max same in
    let B : Bool → Type 0 = λ z. Tells b t os text l spare spare_max z in
    subst B e (subst T q (subst O p tells))

-- what the two answers come to, where the file is not too large
module _ {V W : Type 0} (k : BooleanAlgebra V) {j : BooleanAlgebra W} (b : Window → Reply) (lawful : Lawful b) (bytes : Bor (List ℕ)) (l : Limits) (limit max_edge : ℕ) (roomy : 2 * (limit + 4096) + 1 ≤ max_edge) (room : Room) (named : RoomFor bytes.now room)
    (small : length bytes.now ≤ l.file) (p : Parts) (ts : List (Told W)) (t : State) (parted : (m : List Edge) × (ts ≡ of_parts p m)) (run : Ran k j b (new_world room.inputs limit max_edge) (Read bytes l.places l.outputs ∷ (Write LastFile l.text ∷ [])) ts t) where
  f : FileThenText b (new_state room.inputs limit max_edge) bytes.now l.places l.outputs l.text ts t
  f = file_then_text k b (new_world room.inputs limit max_edge) bytes l.places l.outputs l.text ts t refl run

  parts : (f.answer ≡ p.added) × (f.outputs ≡ vec_items p.outputs) × (write_of t f.last (replicate l.text 0) ≡ p.length) × (text_written t f.last (replicate l.text 0) ≡ vec_items p.buffer)
  parts = same_parts ts f.answer p.added f.map parted.0 f.outputs (vec_items p.outputs) _ p.length _ (vec_items p.buffer) f.told_is parted.1

  built : (r : Result ℕ CircuitFault) → p.added ≡ r → Built b bytes.now l limit max_edge r t f.outputs
  built r e =
      let P : Result ℕ CircuitFault → Type 0 = λ z. Reads b bytes.now (new_state room.inputs limit max_edge) (blank l.places) (blank l.outputs) z t f.map f.outputs in
      let reads = subst P (parts.0 ∙ e) f.reads in
      record { room = room; named = named; map = f.map; reads = reads; well = well_of b bytes.now _ _ _ r t f.map f.outputs (files_mean bit_algebra b lawful bytes.now _ _ _ r t f.map f.outputs (new_well b room.inputs limit max_edge roomy) reads) }

  builds : (n : ℕ) → p.added ≡ Ok n → Builds b bytes.now l limit max_edge t f.last
  builds n e =
      let P : Result ℕ CircuitFault → Type 0 = λ z. LastOutputs bytes.now z f.outputs [] f.last in
      let d = subst P (parts.0 ∙ e) f.last_is in
      record { small = small; added = n; outputs = f.outputs; built = built (Ok n) e; header = d.0; headed = d.1; named = d.2 }

  pub file_refused : (spare spare_max : ℕ) (c : CircuitFault) → p.added ≡ Err c → Reduces b bytes.now l limit max_edge spare spare_max (Err (Refused (File c)))
  file_refused spare spare_max c e = Reduces.file_refused small (built (Err c) e)

  pub text_refused : (spare spare_max : ℕ) (n : ℕ) (c : Refusal) → p.added ≡ Ok n → p.length ≡ Err c → Reduces b bytes.now l limit max_edge spare spare_max (Err (Refused (Unwritten c)))
  text_refused spare spare_max n c e u = Reduces.text_refused (builds n e) (parts.2 ∙ u)

  pub both_taken : (n len : ℕ) (os : List Edge) (text : List ℕ) → p.added ≡ Ok n → p.length ≡ Ok len → os ≡ take room.outputs (vec_items p.outputs) → text ≡ take len (vec_items p.buffer) → Wrote b bytes.now l limit max_edge t os text
  unfolding builds
  both_taken n len os text e u q x =
      let d = builds n e in
      let few = d.built.reads.2.opens.within.small.outputs in
      let same : d.header ≡ d.built.reads.0 = header_unique (get_or (lines bytes.now) 0 []) d.header d.built.reads.0 d.headed d.built.reads.2.opens.header in
      let count : room.outputs ≡ d.header.outputs = all_outputs bytes.now room d.header named d.headed (omega (arith, few, ap (λ (z : Header). z.outputs) same)) in
      let os_is : os ≡ f.last = q ∙ ap₂ take count (sym parts.1) ∙ sym d.named in
      let ok : write_of t f.last (replicate l.text 0) ≡ Ok len = parts.2 ∙ u in
      let text_is : text ≡ text_of t f.last = x ∙ ap (take len) (sym parts.3) ∙ wrote_front t f.last (replicate l.text 0) len ok in
      let O : List Edge → Type 0 = λ z. Wrote b bytes.now l limit max_edge t z text in
      subst O (sym os_is) (record { builds = d; answer = ok ∙ ap Ok ((wrote t f.last (replicate l.text 0) len ok).long ∙ ap length (sym text_is)); text_is = text_is })

-- an error, by what it is
pub refused_as : {A : Type 0} (P : ReduceError → Type 0) (o : Result A ReduceError) (e : ReduceError) → o ≡ Err e → P e → IfErr o P
refused_as {A} P o e is h = let O : Result A ReduceError → Type 0 = λ z. IfErr z P in subst O (sym is) h

-- nothing is said where memory ran out
pub memory : (b : Window → Reply) (bytes : List ℕ) (l : Limits) (limit max_edge spare spare_max : ℕ) (o : Result (Vec ℕ Global) ReduceError) (e : AllocError) → o ≡ Err (Memory e) → Reduces b bytes l limit max_edge spare spare_max o
memory b bytes l limit max_edge spare spare_max o e is = let O : Result (Vec ℕ Global) ReduceError → Type 0 = Reduces b bytes l limit max_edge spare spare_max in subst O (sym is) Reduces.out_of_memory
