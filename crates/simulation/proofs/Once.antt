-- A simulation has one answer.
use Rattle.std.proofs.Common.{◌≡◌, ℕ, ◌+◌, ◌⊎◌, Bool, false, List, [], ◌∷◌, ◌++◌, map, length, get_or, drop, sym, refl, ap, ◌∙◌, ap₂, subst, inl, inr, arith, Ok, Err, Result, Vec}
use Rattle.std.specs.List.{flat_map, All}
use Rattle.std.specs.declared.alloc.Global.{Global}
use Rattle.std.proofs.lemmas.List.{ext_get_or}
use Rattle.std.proofs.lemmas.List.Elements.{All-head, All-tail}
use Rattle.values.specs.Bit.{bit_algebra}
use Rattle.rules.specs.declared.window.Window.{Window}
use Rattle.rules.specs.declared.window.Reply.{Reply}
use Rattle.graph_model.specs.WellFormed.{new_state}
use Rattle.questions.specs.Evaluation.{assigned}
use Rattle.aiger_lines.specs.declared.fields.Header.{Header}
use Rattle.aiger_check.specs.declared.faults.CircuitFault.{CircuitFault}
use Rattle.aiger_check.specs.Circuits.{Item}
use Rattle.aiger_check.specs.Files.{HeaderAt}
use Rattle.aiger_check.specs.Text.{lines}
use Rattle.aiger_check.proofs.Lines.{header_unique}
use Rattle.aiger_check.proofs.Once.{taken_once}
use Rattle.aiger_read.specs.Meaning.{Satisfies}
use Rattle.aiger_read.specs.Reads.{Reads}
use Rattle.aiger_read.proofs.OneReading.{one_reading}
use Rattle.simulation.specs.declared.error.SimulateError.{SimulateError}
use Rattle.simulation.specs.declared.error.SimulateError.TheVariants.{Refused, Frame}
use Rattle.aiger_room.specs.declared.room.Room.{Room}
use Rattle.aiger_room.specs.Rooms.{RoomFor}
use Rattle.aiger_room.proofs.Rooms.{room_once}
use Rattle.simulation.specs.Frames.{FramesOf, NoFrame}
use Rattle.simulation.specs.Simulations.{blank, Loaded, Says, Row, row_line, Simulated, Simulates, refused, no_frame, answered, out_of_memory}
use Rattle.simulation.specs.Once.{OutOfMemory, told, OneSimulation}
use Rattle.simulation.proofs.FramesOnce.{frames_once, no_frame_once, no_frame_apart}

-- ---- the circuit file
header_once : (bytes : List ℕ) (h g : Header) → HeaderAt (lines bytes) h → HeaderAt (lines bytes) g → h ≡ g
header_once bytes h g x y = header_unique (get_or (lines bytes) 0 []) h g x y

loaded_once : (b : Window → Reply) (bytes : List ℕ) (limit max_edge : ℕ) (r q : Result ℕ CircuitFault) → Loaded b bytes limit max_edge r → Loaded b bytes limit max_edge q → r ≡ q
loaded_once b bytes limit max_edge r q x y =
    let R : Room → Type 0 = λ s. Reads b bytes (new_state s.inputs limit max_edge) (blank s.places) (blank s.outputs) q y.graph y.map y.outputs in
    let same = room_once bytes y.room x.room y.named x.named in
    (one_reading b bytes (new_state x.room.inputs limit max_edge) (blank x.room.places) (blank x.room.outputs) r q x.graph y.graph x.map y.map x.outputs y.outputs x.reads (subst R same y.reads)).0

says_once : (bytes : List ℕ) (h g : Header) (is js : List Item) → Says bytes h is → Says bytes g js → (h ≡ g) × (is ≡ js)
says_once bytes h g is js x y =
    let same = header_once bytes h g x.opens.header y.opens.header in
    let S : Header → Type 0 = λ z. Says bytes z js in
    (same, (taken_once bytes h.inputs (h.max + 1) h.outputs h h is js x (subst S (sym same) y)).1)

-- ---- the rows
row_once : (h : Header) (is : List Item) (r q : Row) → Simulated h is r → Simulated h is q → r.frame ≡ q.frame → r.outputs ≡ q.outputs
row_once h is r q x y e =
    let w = x.solvable in
    let S : List Bool → Type 0 = λ f. Satisfies bit_algebra is (assigned bit_algebra f) w.0 in
    ext_get_or false r.outputs q.outputs (x.count ∙ sym y.count) (λ j l. x.outputs j (omega (arith, l, x.count)) w.0 w.1 ∙ sym (y.outputs j (omega (arith, l, x.count)) w.0 (subst S e w.1)))

rows_once : (h : Header) (is : List Item) (rs qs : List Row) → map (λ (r : Row). r.frame) rs ≡ map (λ (r : Row). r.frame) qs → All (Simulated h is) rs → All (Simulated h is) qs → flat_map row_line rs ≡ flat_map row_line qs
rows_once h is [] [] e x y = refl
rows_once h is [] (q ∷ qs) e x y = absurd (omega (arith, ap length e))
rows_once h is (r ∷ rs) [] e x y = absurd (omega (arith, ap length e))
rows_once h is (r ∷ rs) (q ∷ qs) e x y =
    let frame : r.frame ≡ q.frame = ap (λ fs. get_or fs 0 []) e in
    let outputs = row_once h is r q (All-head (Simulated h is) r rs x) (All-head (Simulated h is) q qs y) frame in
    ap₂ ◌++◌ (ap₂ (λ f o. row_line (record { frame = f; outputs = o })) frame outputs) (rows_once h is rs qs (ap (drop 1) e) (All-tail (Simulated h is) r rs x) (All-tail (Simulated h is) q qs y))

-- ---- the whole
module _ (b : Window → Reply) (circuit frames : List ℕ) (limit max_edge : ℕ) where
  mixed : (n : ℕ) (f : CircuitFault) → Loaded b circuit limit max_edge (Ok n) → Loaded b circuit limit max_edge (Err f) → ⊥
  mixed n f x y = let e = loaded_once b circuit limit max_edge (Ok n) (Err f) x y in let z : ◌≡◌ {A = ℕ} 0 1 = cc in omega arith

  one : (r q : Result (Vec ℕ Global) SimulateError) → Simulates b circuit frames limit max_edge r → Simulates b circuit frames limit max_edge q → OutOfMemory r ⊎ OutOfMemory q ⊎ (told r ≡ told q)
  one r q out_of_memory y = inl tt
  one r q (refused l) (refused m) = inr (inr (refused_same (loaded_once b circuit limit max_edge _ _ l m)))
    where
      refused_same : {f g : CircuitFault} → ◌≡◌ {A = Result ℕ CircuitFault} (Err f) (Err g) → ◌≡◌ {A = Result (List ℕ) SimulateError} (Err (Refused f)) (Err (Refused g))
      refused_same e = cc
  one r q (refused l) (no_frame m s x) = absurd (mixed _ _ m l)
  one r q (refused l) (answered rows m s x a t) = absurd (mixed _ _ m l)
  one r q (refused l) out_of_memory = inr (inl tt)
  one r q (no_frame l s x) (refused m) = absurd (mixed _ _ l m)
  one r q (no_frame {k = k} {h = h} {is = is} l s x) (no_frame {k = j} {h = g} {is = js} m t y) =
      let same = says_once circuit h g is js s t in
      let N : Header → Type 0 = λ z. NoFrame z.inputs frames k in
      inr (inr (ap (λ m. Err (Frame m)) (no_frame_once g.inputs frames k j (subst N same.0 x) y)))
  one r q (no_frame {k = k} {h = h} {is = is} l s x) (answered {h = g} {is = js} rows m t y a z) =
      let same = says_once circuit h g is js s t in
      let N : Header → Type 0 = λ z. NoFrame z.inputs frames k in
      absurd (no_frame_apart g.inputs frames k _ (subst N same.0 x) y)
  one r q (no_frame l s x) out_of_memory = inr (inl tt)
  one r q (answered rows m s x a t) (refused l) = absurd (mixed _ _ m l)
  one r q (answered {h = g} {is = js} rows m t y a z) (no_frame {k = k} {h = h} {is = is} l s x) =
      let same = says_once circuit h g is js s t in
      let N : Header → Type 0 = λ z. NoFrame z.inputs frames k in
      absurd (no_frame_apart g.inputs frames k _ (subst N same.0 x) y)
  one r q (answered {h = h} {is = is} {text = u} rows m s x a t) (answered {h = g} {is = js} {text = v} more l p y c z) =
      let same = says_once circuit h g is js s p in
      let F : Header → Type 0 = λ z. FramesOf z.inputs frames (map (λ (r : Row). r.frame) rows) in
      let A : Header → List Item → Type 0 = λ z zs. All (Simulated z zs) rows in
      let all : All (Simulated g js) rows = subst (λ z. A z js) same.0 (subst (A h) same.1 a) in
      let frame = frames_once g.inputs (map (λ (r : Row). r.frame) rows) (map (λ (r : Row). r.frame) more) frames (subst F same.0 x) y in
      inr (inr (ap Ok (t ∙ rows_once g js rows more frame all c ∙ sym z)))
  one r q (answered rows m s x a t) out_of_memory = inr (inl tt)

pub one_simulation : (b : Window → Reply) → OneSimulation b
one_simulation b circuit frames limit max_edge r q x y = one b circuit frames limit max_edge r q x y
