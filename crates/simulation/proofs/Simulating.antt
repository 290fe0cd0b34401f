-- What a read circuit's outputs are under a frame is what its file says.
use Rattle.std.proofs.Common.{◌≡◌, ℕ, zero, suc, ◌+◌, ◌-◌, Bool, false, List, [], ◌∷◌, ◌++◌, map, length, get_or, sym, refl, ap, ◌∙◌, subst, arith, Ok, Err, Result, Vec, vec_items, Bor}
use mathlib.Core.Path.{fun_ext}
use Rattle.std.specs.List.{flat_map}
use Rattle.std.specs.declared.alloc.AllocError.{AllocError}
use Rattle.std.specs.declared.alloc.Global.{Global}
use Rattle.std.proofs.lemmas.List.{length-map, get_or-map}
use Rattle.std.proofs.lemmas.List.Elements.{All-map}
use Rattle.values.specs.Bit.{bit_algebra}
use Rattle.rules.specs.declared.edge.Edge.{Edge}
use Rattle.rules.specs.declared.window.Window.{Window}
use Rattle.rules.specs.declared.window.Reply.{Reply}
use Rattle.rules.specs.Edges.{false_edge}
use Rattle.rules.specs.Lawful.{Lawful}
use Rattle.graph_model.specs.Graphs.{State, meaning}
use Rattle.graph_model.specs.WellFormed.{Well, new_state}
use Rattle.questions.specs.Evaluation.{assigned}
use Rattle.aiger_lines.specs.declared.fields.Header.{Header}
use Rattle.aiger_check.specs.declared.faults.CircuitFault.{CircuitFault}
use Rattle.aiger_check.specs.Circuits.{Item}
use Rattle.aiger_check.specs.Files.{Taken}
use Rattle.aiger_read.specs.Meaning.{FileMeans, ReadRight}
use Rattle.aiger_read.specs.Reads.{Reads}
use Rattle.aiger_read.proofs.Happens.{files_mean}
use Rattle.simulation.specs.declared.error.SimulateError.{SimulateError}
use Rattle.simulation.specs.declared.error.SimulateError.TheVariants.{Refused, Frame, Memory}
use Rattle.aiger_room.specs.declared.room.Room.{Room}
use Rattle.aiger_room.specs.Rooms.{RoomFor}
use Rattle.aiger_room.proofs.Rooms.{all_outputs, taken_in}
use Rattle.simulation.specs.Frames.{digits, FramesOf, NoFrame, Shows, FramesRead}
use Rattle.simulation.specs.Columns.{set_at, shown}
use Rattle.simulation.specs.Answers.{given, output_bits, answer_text}
use Rattle.simulation.proofs.FrameLines.{digit_back}
use Rattle.simulation.specs.Simulations.{blank, Loaded, Says, Row, row_line, Simulated, Simulates, refused, no_frame, answered, out_of_memory}

-- ---- the bits of a frame, by its digits
set_digit : (f : List Bool) (n : ℕ) → set_at (digits f) n ≡ get_or f n false
set_digit [] n = refl
set_digit (b ∷ f) zero = digit_back b
set_digit (b ∷ f) (suc n) = set_digit f n

given_digits : (f : List Bool) → given (digits f) ≡ assigned bit_algebra f
given_digits f = fun_ext (λ i. set_digit f (i - 1))

-- ---- the rows of all frames
abbrev row_of : State → List Edge → List Bool → Row
row_of t os f = record { frame = f; outputs = output_bits t os (digits f) }

text_rows : (t : State) (os : List Edge) (fs : List (List Bool)) → answer_text t os (map digits fs) ≡ flat_map row_line (map (row_of t os) fs)
text_rows t os [] = refl
text_rows t os (f ∷ fs) = ap (λ z. row_line (row_of t os f) ++ z) (text_rows t os fs)

frames_rows : (t : State) (os : List Edge) (fs : List (List Bool)) → map (λ (r : Row). r.frame) (map (row_of t os) fs) ≡ fs
frames_rows t os [] = refl
frames_rows t os (f ∷ fs) = ap (λ z. f ∷ z) (frames_rows t os fs)

-- ---- what was read of the file
just_room : (bytes : List ℕ) (graph places outs : ℕ) (h : Header) (is : List Item) → Taken bytes graph places outs h is → Says bytes h is
just_room bytes graph places outs h is t = taken_in bytes graph places outs h.inputs (h.max + 1) h.outputs h is t refl (omega arith) (omega arith)

module _ (b : Window → Reply) (lawful : Lawful b) (bytes frames : List ℕ) (limit max_edge : ℕ) (s : Room) (named : RoomFor bytes s) (t : State) (m o : List Edge) where
  pub loaded : (r : Result ℕ CircuitFault) → Reads b bytes (new_state s.inputs limit max_edge) (blank s.places) (blank s.outputs) r t m o → Loaded b bytes limit max_edge r
  loaded r reads = record { room = s; named = named; graph = t; map = m; outputs = o; reads = reads }

  module _ (n : ℕ) (well : Well b (new_state s.inputs limit max_edge)) (reads : Reads b bytes (new_state s.inputs limit max_edge) (blank s.places) (blank s.outputs) (Ok n) t m o) where
    right : ReadRight bit_algebra b bytes (new_state s.inputs limit max_edge) (blank s.places) (blank s.outputs) n t m o
    right = files_mean bit_algebra b lawful bytes (new_state s.inputs limit max_edge) (blank s.places) (blank s.outputs) (Ok n) t m o well reads

    abbrev means : FileMeans bit_algebra bytes (new_state s.inputs limit max_edge) (blank s.places) (blank s.outputs) t m o
    means = right.means

    says : Says bytes means.header means.items
    says = just_room bytes _ _ _ means.header means.items means.taken

    inputs : t.inputs ≡ means.header.inputs
    inputs = right.extends.inputs ∙ sym means.taken.opens.inputs

    row_right : (f : List Bool) → length o ≡ s.outputs → Simulated means.header means.items (row_of t o f)
    row_right f l =
        let h = means.header in
        let k = bit_algebra in
        let long : length o ≡ h.outputs = l ∙ all_outputs bytes s h named means.taken.opens.header means.taken.opens.within.small.outputs in
        record {
          count = length-map o (meaning k (given (digits f)) t) ∙ long;
          solvable = means.solvable (assigned k f);
          outputs = λ j less w sat.
              get_or-map (meaning k (given (digits f)) t) o j false_edge false (omega (arith, long, less))
              ∙ ap (λ ρ. meaning k ρ t (get_or o j false_edge)) (given_digits f)
              ∙ (means.outputs j less).1 (assigned k f) w sat;
        }

    pub frame_refused : (i k : ℕ) → i ≡ t.inputs → NoFrame i frames k → Simulates b bytes frames limit max_edge (Err (Frame k))
    frame_refused i k e f = no_frame (loaded (Ok n) reads) says (subst (λ z. NoFrame z frames k) (e ∙ inputs) f)

    pub all_answered : (i : ℕ) (ls : List (Bor (List ℕ))) (fs : List (List Bool)) (text : Vec ℕ Global) → i ≡ t.inputs → length o ≡ s.outputs → FramesOf i frames fs → Shows ls fs → vec_items text ≡ answer_text t o (shown ls)
        → Simulates b bytes frames limit max_edge (Ok text)
    all_answered i ls fs text e l of shows is =
        answered (map (row_of t o) fs) (loaded (Ok n) reads) says
        (subst (FramesOf means.header.inputs frames) (sym (frames_rows t o fs)) (subst (λ z. FramesOf z frames fs) (e ∙ inputs) of))
        (All-map (Simulated means.header means.items) (row_of t o) fs (λ k d h. row_right (get_or fs k d) l))
        (is ∙ ap (answer_text t o) shows ∙ text_rows t o fs)

    -- a frames file that is not read
    pub frames_failed : (i : ℕ) (x : SimulateError) (r : Result (Vec ℕ Global) SimulateError) → r ≡ Err x → i ≡ t.inputs → FramesRead i frames (Err x) → Simulates b bytes frames limit max_edge r
    frames_failed i x r is e f = subst (Simulates b bytes frames limit max_edge) (sym is) (told x f)
      where
        told : (x : SimulateError) → FramesRead i frames (Err x) → Simulates b bytes frames limit max_edge (Err x)
        told (Refused f) h = absurd h
        told (Frame k) h = frame_refused i k e h
        told (Memory m) h = out_of_memory

pub file_refused : (b : Window → Reply) (bytes frames : List ℕ) (limit max_edge : ℕ) (f : CircuitFault) (r : Result (Vec ℕ Global) SimulateError) → r ≡ Err (Refused f) → Loaded b bytes limit max_edge (Err f) → Simulates b bytes frames limit max_edge r
file_refused b bytes frames limit max_edge f r e l = subst (Simulates b bytes frames limit max_edge) (sym e) (refused l)

-- nothing is said where memory ran out
pub memory : (b : Window → Reply) (bytes frames : List ℕ) (limit max_edge : ℕ) (x : AllocError) (r : Result (Vec ℕ Global) SimulateError) → r ≡ Err (Memory x) → Simulates b bytes frames limit max_edge r
memory b bytes frames limit max_edge x r e = subst (Simulates b bytes frames limit max_edge) (sym e) out_of_memory

-- a reading, with what the graph and the buffers were
pub reads_of : (b : Window → Reply) (bytes : List ℕ) (s s' : State) (m m' o o' : List Edge) (r : Result ℕ CircuitFault) (t : State) (p q : List Edge) → s ≡ s' → m ≡ m' → o ≡ o' → Reads b bytes s m o r t p q → Reads b bytes s' m' o' r t p q
reads_of b bytes s s' m m' o o' r t p q es em eo h =
    subst (λ z. Reads b bytes z m' o' r t p q) es (subst (λ z. Reads b bytes s z o' r t p q) em (subst (λ z. Reads b bytes s m z r t p q) eo h))
