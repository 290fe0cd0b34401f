-- The answer, the graph, the map and the outputs of a reading are determined.
use Rattle.std.proofs.Common.{◌≡◌, ℕ, ◌+◌, List, [], ◌++◌, map, length, get_or, take, drop, Ok, Err, sym, ap, ◌∙◌, subst, inl, inr, arith}
use Rattle.rules.specs.declared.edge.Edge.{Edge}
use Rattle.rules.specs.declared.window.Window.{Window}
use Rattle.rules.specs.declared.window.Reply.{Reply}
use Rattle.graph_model.specs.Graphs.{State}
use Rattle.aiger_check.specs.declared.faults.CircuitFault.{CircuitFault}
use Rattle.aiger_check.specs.declared.faults.CircuitFault.TheVariants.{TooLarge, NoHeader, Latches, Limits, Inputs, Room, Line}
use Rattle.aiger_check.specs.declared.faults.LineFault.TheVariants.{Full}
use Rattle.aiger_check.specs.Text.{lines}
use Rattle.aiger_check.specs.Files.{Refused, literal, marked}
use Rattle.aiger_check.specs.Calls.{Checked}
use Rattle.aiger_check.proofs.Lines.{header_unique}
use Rattle.aiger_check.proofs.Once.{taken_once, refused_once, apart}
use Rattle.aiger_read.specs.Requests.{through, done, stopped}
use Rattle.aiger_read.specs.Reads.{requests, OneReading}

pub refused : (bs : List ℕ) (graph : ℕ) (m o : List Edge) (e : CircuitFault) (m' o' : List Edge) → Checked bs graph m o (Err e) m' o' → Refused bs graph (length m) (length o) e
refused bs graph m o TooLarge m' o' c = c.0
refused bs graph m o NoHeader m' o' c = c.0
refused bs graph m o Latches m' o' c = c.0
refused bs graph m o Limits m' o' c = c.0
refused bs graph m o Inputs m' o' c = c.0
refused bs graph m o Room m' o' c = c.0
refused bs graph m o (Line f) m' o' c = (c.0, c.1, c.2)

left : (bs : List ℕ) (graph : ℕ) (m o : List Edge) (e : CircuitFault) (m' p o' v : List Edge) → Checked bs graph m o (Err e) m' o' → Checked bs graph m o (Err e) p v → (m' ≡ p) × (o' ≡ v)
left bs graph m o TooLarge m' p o' v c d = (c.1 ∙ sym d.1, c.2 ∙ sym d.2)
left bs graph m o NoHeader m' p o' v c d = (c.1 ∙ sym d.1, c.2 ∙ sym d.2)
left bs graph m o Latches m' p o' v c d = (c.1 ∙ sym d.1, c.2 ∙ sym d.2)
left bs graph m o Limits m' p o' v c d = (c.1 ∙ sym d.1, c.2 ∙ sym d.2)
left bs graph m o Inputs m' p o' v c d = (c.1 ∙ sym d.1, c.2 ∙ sym d.2)
left bs graph m o Room m' p o' v c d = (c.1 ∙ sym d.1, c.2 ∙ sym d.2)
left bs graph m o (Line f) m' p o' v c d =
    let e = header_unique (get_or (lines bs) 0 []) c.0 d.0 c.1.header d.1.header in
    (c.3 ∙ (λ i. marked ((e i).max + 1) m) ∙ sym d.3, c.4 ∙ (λ i. marked (e i).outputs o) ∙ sym d.4)

pub done_is : {m m' : List Edge} {s t : State} {n k : ℕ} → done m s n ≡ done m' t k → (m ≡ m') × (s ≡ t) × (n ≡ k)
done_is e = (cc, cc, cc)

stopped_is : {s t : State} {n k : ℕ} → stopped n s ≡ stopped k t → (n ≡ k) × (s ≡ t)
stopped_is e = (cc, cc)

pub not_both : {m : List Edge} {s t : State} {n k : ℕ} → done m s n ≡ stopped k t → ⊥
not_both e = let z : ◌≡◌ {A = ℕ} 0 1 = cc in omega arith

pub one_reading : (b : Window → Reply) → OneReading b
one_reading b bytes s m o (Ok n) (Ok k) t u m' p o' v (h, is, x, f) (g, js, y, e) =
    let same = taken_once bytes s.inputs (length m) (length o) h g is js x y in
    let parts = done_is (sym f.runs ∙ (λ i. requests b (same.0 i) (same.1 i) m s) ∙ e.runs) in (
      ap Ok parts.2,
      parts.1,
      parts.0,
      f.outputs ∙ (λ i. map (λ z. through (parts.0 i) (literal z)) (take (same.0 i).outputs (drop (same.0 i).inputs (same.1 i))) ++ drop (same.0 i).outputs o) ∙ sym e.outputs,
    )
one_reading b bytes s m o (Ok n) (Err d) t u m' p o' v (h, is, x, f) (inl (c, e)) = absurd (apart bytes s.inputs (length m) (length o) h is d x (refused bytes s.inputs m o d p v c))
one_reading b bytes s m o (Ok n) (Err d) t u m' p o' v (h, is, x, f) (inr (g, js, y, e)) =
    let same = taken_once bytes s.inputs (length m) (length o) h g is js x y in
    absurd (not_both (sym f.runs ∙ (λ i. requests b (same.0 i) (same.1 i) m s) ∙ e.runs))
one_reading b bytes s m o (Err d) (Ok k) t u m' p o' v (inl (c, e)) (g, js, y, f) = absurd (apart bytes s.inputs (length m) (length o) g js d y (refused bytes s.inputs m o d m' o' c))
one_reading b bytes s m o (Err d) (Ok k) t u m' p o' v (inr (h, is, x, f)) (g, js, y, e) =
    let same = taken_once bytes s.inputs (length m) (length o) g h js is y x in
    absurd (not_both (sym e.runs ∙ (λ i. requests b (same.0 i) (same.1 i) m s) ∙ f.runs))
one_reading b bytes s m o (Err d) (Err q) t u m' p o' v (inl (c, e)) (inl (a, f)) =
    let fault = refused_once bytes s.inputs (length m) (length o) d q (refused bytes s.inputs m o d m' o' c) (refused bytes s.inputs m o q p v a) in
    let buffers = left bytes s.inputs m o d m' p o' v c (subst (λ z. Checked bytes s.inputs m o (Err z) p v) (sym fault) a) in
    (ap Err fault, e ∙ sym f, buffers.0, buffers.1)
one_reading b bytes s m o (Err d) (Err q) t u m' p o' v (inl (c, e)) (inr (g, js, y, f)) = absurd (apart bytes s.inputs (length m) (length o) g js d y (refused bytes s.inputs m o d m' o' c))
one_reading b bytes s m o (Err d) (Err q) t u m' p o' v (inr (h, is, x, f)) (inl (a, e)) = absurd (apart bytes s.inputs (length m) (length o) h is q x (refused bytes s.inputs m o q p v a))
one_reading b bytes s m o (Err d) (Err q) t u m' p o' v (inr (h, is, x, f)) (inr (g, js, y, e)) =
    let same = taken_once bytes s.inputs (length m) (length o) h g is js x y in
    let parts = stopped_is (sym f.runs ∙ (λ i. requests b (same.0 i) (same.1 i) m s) ∙ e.runs) in (
      ap Err (f.fault ∙ (λ i. Line (record { line = parts.0 i + 2; fault = Full })) ∙ sym e.fault),
      parts.1,
      f.map ∙ (λ i. marked ((same.0 i).max + 1) m) ∙ sym e.map,
      f.outputs ∙ (λ i. marked (same.0 i).outputs o) ∙ sym e.outputs,
    )
