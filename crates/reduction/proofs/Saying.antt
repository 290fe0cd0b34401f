-- A text that was written of a file and read back says the same as the file.
use Rattle.std.proofs.Common.{◌≡◌, ℕ, ◌+◌, ◌*◌, ◌<◌, ◌≤◌, List, [], map, length, get_or, take, drop, Ok, Result, refl, sym, ap, ap₂, ◌∙◌, subst, arith, length-append, length-take, length-drop}
use Rattle.std.proofs.lemmas.List.{get_or-take, length-map}
use lib.ListN.{length-replicate}
use Rattle.values.specs.Algebra.{BooleanAlgebra}
use Rattle.rules.specs.declared.edge.Edge.{Edge}
use Rattle.rules.specs.declared.window.Window.{Window}
use Rattle.rules.specs.declared.window.Reply.{Reply}
use Rattle.rules.specs.Edges.{false_edge}
use Rattle.rules.specs.Lawful.{Lawful}
use Rattle.rules.specs.Meaning.{means}
use Rattle.graph_model.specs.Graphs.{State, at, grown, roots, meaning}
use Rattle.graph_model.specs.WellFormed.{new_state}
use Rattle.aiger_lines.specs.declared.fields.Header.{Header}
use Rattle.aiger_check.specs.declared.faults.CircuitFault.{CircuitFault}
use Rattle.aiger_check.specs.Circuits.{Item}
use Rattle.aiger_check.specs.Files.{Taken, literal}
use Rattle.aiger_check.specs.Text.{lines}
use Rattle.aiger_check.proofs.Lines.{header_unique}
use Rattle.aiger_room.proofs.Rooms.{taken_in}
use Rattle.aiger_read.specs.Meaning.{ReadRight}
use Rattle.aiger_read.specs.Reads.{Reads}
use Rattle.aiger_read.specs.Requests.{through}
use Rattle.aiger_read.proofs.Happens.{files_mean}
use Rattle.aiger_read.proofs.Trips.{is_taken}
use Rattle.aiger_write.specs.Texts.{header_of}
use Rattle.aiger_write.specs.Writing.{text_of}
use Rattle.reduction.specs.declared.limits.Limits.{Limits}
use Rattle.reduction.specs.Meaning.{Circuit, SaysSame}
use Rattle.reduction.specs.Reductions.{blank, Wrote, Same}
use Rattle.reduction.proofs.Rereading.{new_well}
use Rattle.reduction.proofs.Reducing.{can_write}

-- a file that was taken anywhere
circuit : (bytes : List ℕ) (graph places outs : ℕ) (h : Header) (is : List Item) → Taken bytes graph places outs h is → Circuit bytes
circuit bytes graph places outs h is t = record { header = h; items = is; taken = taken_in bytes graph places outs h.inputs (h.max + 1) h.outputs h is t refl (omega arith) (omega arith) }

module _ {V : Type 0} (k : BooleanAlgebra V) (b : Window → Reply) (lawful : Lawful b) (bytes : List ℕ) (l : Limits) (limit max_edge spare spare_max : ℕ) (capped : limit ≤ 1000000) (roomy : 2 * (limit + 4096) + 1 ≤ max_edge) (spare_roomy : 2 * (spare + 4096) + 1 ≤ spare_max)
    (t : State) (within : length t.pairs ≤ t.limit) (os : List Edge) (text : List ℕ) (w : Wrote b bytes l limit max_edge t os text) (s : Same b t os l spare spare_max) where
  read : ReadRight k b bytes (new_state w.builds.built.room.inputs limit max_edge) (blank l.places) (blank l.outputs) w.builds.added t w.builds.built.map w.builds.outputs
  read = files_mean k b lawful bytes (new_state w.builds.built.room.inputs limit max_edge) (blank l.places) (blank l.outputs) (Ok w.builds.added) t w.builds.built.map w.builds.outputs (new_well b w.builds.built.room.inputs limit max_edge roomy) w.builds.built.reads

  again : ReadRight k b (text_of t os) (new_state t.inputs spare spare_max) (blank l.places) (blank l.outputs) (length t.pairs) s.graph s.map s.outputs
  again =
      let P : Result ℕ CircuitFault → Type 0 = λ z. Reads b (text_of t os) (new_state t.inputs spare spare_max) (blank l.places) (blank l.outputs) z s.graph s.map s.outputs in
      files_mean k b lawful (text_of t os) (new_state t.inputs spare spare_max) (blank l.places) (blank l.outputs) (Ok (length t.pairs)) s.graph s.map s.outputs (new_well b t.inputs spare spare_max spare_roomy) (subst P s.again.answer s.reads)

  abbrev h : Header
  h = read.means.header

  abbrev g : Header
  g = again.means.header

  -- the text's header is the one that is written
  text_header : g ≡ header_of t.inputs t.pairs os
  text_header =
      let ok = can_write b lawful bytes l limit max_edge capped roomy t os text within w again.means.taken.opens.short in
      let room : t.inputs + length t.pairs < length (blank (t.inputs + length t.pairs + 1)) = simp length-replicate (omega arith) in
      let t' = is_taken b lawful t os w.builds.built.well ok (length t.pairs) (2 * (length t.pairs + t.inputs) + 1) (omega arith) (omega arith) (blank (t.inputs + length t.pairs + 1)) os room (omega arith) in
      header_unique (get_or (lines (text_of t os)) 0 []) g (header_of t.inputs t.pairs os) again.means.taken.opens.header t'.opens.header

  file_header : w.builds.header ≡ h
  file_header = header_unique (get_or (lines bytes) 0 []) w.builds.header h w.builds.headed read.means.taken.opens.header

  -- there are as many outputs as the file's header names
  wide : h.outputs ≤ length w.builds.outputs
  wide =
      let r = w.builds.built.reads in
      let same : h.outputs ≡ r.0.outputs = ap (λ (z : Header). z.outputs) (header_unique (get_or (lines bytes) 0 []) h r.0 read.means.taken.opens.header r.2.opens.header) in
      let front = map (λ i. through w.builds.built.map (literal i)) (take r.0.outputs (drop r.0.inputs r.1)) in
      let long : length front ≡ length (take r.0.outputs (drop r.0.inputs r.1)) = length-map (take r.0.outputs (drop r.0.inputs r.1)) (λ i. through w.builds.built.map (literal i)) in
      omega (arith, same, ap length r.3.outputs, length-append front (drop r.0.outputs (blank l.outputs)), long, length-take r.0.outputs (drop r.0.inputs r.1), length-drop r.0.inputs r.1, r.2.whole.count)

  many : length os ≡ h.outputs
  many = omega (arith, ap length w.builds.named, length-take w.builds.header.outputs w.builds.outputs, ap (λ (z : Header). z.outputs) file_header, wide)

  edges : (j : ℕ) → j < h.outputs → get_or s.outputs j false_edge ≡ get_or w.builds.outputs j false_edge
  edges j l =
      sym (get_or-take (length os) s.outputs j false_edge (omega (arith, many)))
      ∙ ap (λ z. get_or z j false_edge) (s.again.outputs ∙ w.builds.named)
      ∙ get_or-take w.builds.header.outputs w.builds.outputs j false_edge (omega (arith, ap (λ (z : Header). z.outputs) file_header))

  meanings : (ρ : ℕ → V) (e : Edge) → meaning k ρ s.graph e ≡ meaning k ρ t e
  meanings ρ e = ap₂ (λ x y. means k (at k (grown k (roots k ρ x) y)) e) s.again.inputs s.again.pairs

  pub says_same : SaysSame k bytes text
  unfolding circuit
  says_same =
      let T : List ℕ → Type 0 = SaysSame k bytes in
      subst T (sym w.text_is) (record {
        file = circuit bytes _ _ _ h read.means.items read.means.taken;
        reduced = circuit (text_of t os) _ _ _ g again.means.items again.means.taken;
        inputs = ap (λ (z : Header). z.inputs) text_header ∙ read.extends.inputs ∙ sym read.means.taken.opens.inputs;
        outputs = ap (λ (z : Header). z.outputs) text_header ∙ many;
        values = λ j i ρ x v p q.
            sym ((again.means.outputs j (omega (arith, i, ap (λ (z : Header). z.outputs) text_header, many))).1 ρ v q)
            ∙ meanings ρ (get_or s.outputs j false_edge)
            ∙ ap (meaning k ρ t) (edges j i)
            ∙ (read.means.outputs j i).1 ρ x p;
      })
