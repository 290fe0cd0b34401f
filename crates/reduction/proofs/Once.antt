-- A reduction has one answer, and a file is too large by its length alone.
use Rattle.std.proofs.Common.{◌≡◌, ℕ, ◌<◌, ◌≤◌, ◌⊎◌, List, [], length, get_or, min, take, replicate, sym, refl, ap, ◌∙◌, ap₂, subst, inl, inr, arith, Ok, Err, Result, Vec}
use Rattle.std.specs.declared.alloc.Global.{Global}
use Rattle.rules.specs.declared.edge.Edge.{Edge}
use Rattle.rules.specs.declared.window.Window.{Window}
use Rattle.rules.specs.declared.window.Reply.{Reply}
use Rattle.graph_model.specs.declared.refusal.Refusal.{Refusal}
use Rattle.graph_model.specs.Graphs.{State}
use Rattle.graph_model.specs.WellFormed.{new_state}
use Rattle.aiger_lines.specs.declared.fields.Header.{Header}
use Rattle.aiger_check.specs.declared.faults.CircuitFault.{CircuitFault}
use Rattle.aiger_check.specs.declared.faults.CircuitFault.TheVariants.{TooLarge}
use Rattle.aiger_check.specs.Text.{lines}
use Rattle.aiger_check.proofs.Lines.{header_unique}
use Rattle.aiger_check.proofs.Once.{refused_once}
use Rattle.aiger_room.specs.declared.room.Room.{Room}
use Rattle.aiger_room.proofs.Rooms.{room_once}
use Rattle.aiger_read.specs.Reads.{Reads}
use Rattle.aiger_read.proofs.OneReading.{one_reading, refused as refused_as_checked}
use Rattle.aiger_write.specs.Writing.{text_of, write_of}
use Rattle.reduction.specs.declared.limits.Limits.{Limits}
use Rattle.reduction.specs.declared.error.Refused.TheVariants.{File, Write}
use Rattle.reduction.specs.declared.error.ReduceError.{ReduceError}
use Rattle.reduction.specs.Reductions.{blank, Built, Builds, Wrote, Same, Reduces, too_large, file_refused, text_refused, written, otherwise, out_of_memory}
use Rattle.reduction.specs.Once.{Told, told, no_memory, refused, OneReduction, LargeByLength}

module _ (b : Window → Reply) (bytes : List ℕ) (l : Limits) (limit max_edge : ℕ) where
  built_once : (r q : Result ℕ CircuitFault) (t u : State) (os ps : List Edge) → Built b bytes l limit max_edge r t os → Built b bytes l limit max_edge q u ps → (r ≡ q) × (t ≡ u) × (os ≡ ps)
  built_once r q t u os ps x y =
      let R : Room → Type 0 = λ s. Reads b bytes (new_state s.inputs limit max_edge) (blank l.places) (blank l.outputs) q u y.map ps in
      let one = one_reading b bytes (new_state x.room.inputs limit max_edge) (blank l.places) (blank l.outputs) r q t u x.map y.map os ps x.reads (subst R (room_once bytes y.room x.room y.named x.named) y.reads) in
      (one.0, one.1, one.3)

  builds_once : (t u : State) (os ps : List Edge) → Builds b bytes l limit max_edge t os → Builds b bytes l limit max_edge u ps → (t ≡ u) × (os ≡ ps)
  builds_once t u os ps x y =
      let one = built_once (Ok x.added) (Ok y.added) t u x.outputs y.outputs x.built y.built in
      let same = header_unique (get_or (lines bytes) 0 []) x.header y.header x.headed y.headed in
      (one.1, x.named ∙ ap₂ take (ap (λ (h : Header). h.outputs) same) one.2 ∙ sym y.named)

  faults_once : (f c : CircuitFault) (t u : State) (os ps : List Edge) → Built b bytes l limit max_edge (Err f) t os → Built b bytes l limit max_edge (Err c) u ps → f ≡ c
  faults_once f c t u os ps x y = let e = (built_once (Err f) (Err c) t u os ps x y).0 in cc

  -- a file is not both refused and taken
  mixed : (f : CircuitFault) (t u : State) (os ps : List Edge) → Built b bytes l limit max_edge (Err f) t os → Builds b bytes l limit max_edge u ps → ⊥
  mixed f t u os ps x y = let e = (built_once (Err f) (Ok y.added) t u os y.outputs x y.built).0 in let z : ◌≡◌ {A = ℕ} 0 1 = cc in omega arith

  writes_once : (t u : State) (os ps : List Edge) → Builds b bytes l limit max_edge t os → Builds b bytes l limit max_edge u ps → write_of t os (replicate l.text 0) ≡ write_of u ps (replicate l.text 0)
  writes_once t u os ps x y = let one = builds_once t u os ps x y in ap₂ (λ s o. write_of s o (replicate l.text 0)) one.0 one.1

  -- nor is a text both refused and written
  unwritten : (t u : State) (os ps : List Edge) (c : Refusal) (text : List ℕ) → Builds b bytes l limit max_edge t os → write_of t os (replicate l.text 0) ≡ Err c → Wrote b bytes l limit max_edge u ps text → ⊥
  unwritten t u os ps c text x e w = let same = writes_once t u os ps x w.builds in let n = w.answer in let z : ◌≡◌ {A = ℕ} 0 1 = cc in omega arith

  texts_once : (t u : State) (os ps : List Edge) (text more : List ℕ) → Wrote b bytes l limit max_edge t os text → Wrote b bytes l limit max_edge u ps more → text ≡ more
  texts_once t u os ps text more w v = let one = builds_once t u os ps w.builds v.builds in w.text_is ∙ ap₂ text_of one.0 one.1 ∙ sym v.text_is

  same_once : (t u : State) (os ps : List Edge) (spare spare_max : ℕ) → Builds b bytes l limit max_edge t os → Builds b bytes l limit max_edge u ps → Same b t os l spare spare_max → Same b u ps l spare spare_max
  same_once t u os ps spare spare_max x y s =
      let one = builds_once t u os ps x y in
      let T : State → Type 0 = λ z. Same b z os l spare spare_max in
      let O : List Edge → Type 0 = λ z. Same b u z l spare spare_max in
      subst O one.1 (subst T one.0 s)

  -- a file over the limit of every file is refused as too large, and no other file is
  large : (f : CircuitFault) (t : State) (os : List Edge) → Built b bytes l limit max_edge (Err f) t os → 1048576 < length bytes → f ≡ TooLarge
  large f t os x long = go x.reads
    where
      go : Reads b bytes (new_state x.room.inputs limit max_edge) (blank l.places) (blank l.outputs) (Err f) t x.map os → f ≡ TooLarge
      go (inl c) =
          let inputs = (new_state x.room.inputs limit max_edge).inputs in
          refused_once bytes inputs (length (blank l.places)) (length (blank l.outputs)) f TooLarge (refused_as_checked bytes inputs (blank l.places) (blank l.outputs) f x.map os c.0) long
      go (inr s) = absurd (omega (arith, s.2.opens.short, long))

  only_large : (t : State) (os : List Edge) → Built b bytes l limit max_edge (Err TooLarge) t os → 1048576 < length bytes
  only_large t os x = go x.reads
    where
      go : Reads b bytes (new_state x.room.inputs limit max_edge) (blank l.places) (blank l.outputs) (Err TooLarge) t x.map os → 1048576 < length bytes
      go (inl c) = c.0.0
      go (inr s) = let e = s.3.fault in let z : ◌≡◌ {A = ℕ} 0 1 = cc in absurd (omega arith)

  small : (t : State) (os : List Edge) → Builds b bytes l limit max_edge t os → length bytes ≤ min l.file 1048576
  small t os x = omega (arith, x.small, x.built.reads.2.opens.short)

  module _ (spare spare_max : ℕ) where
    pub one : (r q : Result (Vec ℕ Global) ReduceError) → Reduces b bytes l limit max_edge spare spare_max r → Reduces b bytes l limit max_edge spare spare_max q → (told r ≡ no_memory) ⊎ (told q ≡ no_memory) ⊎ (told r ≡ told q)
    one r q out_of_memory y = inl refl
    one r q (too_large p) (too_large o) = inr (inr refl)
    one r q (too_large p) (file_refused s x) = absurd (omega (arith, p, s))
    one r q (too_large p) (text_refused x e) = absurd (omega (arith, p, x.small))
    one r q (too_large p) (written w s) = absurd (omega (arith, p, w.builds.small))
    one r q (too_large p) (otherwise w n m) = absurd (omega (arith, p, w.builds.small))
    one r q (too_large p) out_of_memory = inr (inl refl)
    one r q (file_refused s x) (too_large p) = absurd (omega (arith, p, s))
    one r q (file_refused s x) (file_refused o y) = inr (inr (ap (λ f. refused (File f)) (faults_once _ _ _ _ _ _ x y)))
    one r q (file_refused s x) (text_refused y e) = absurd (mixed _ _ _ _ _ x y)
    one r q (file_refused s x) (written w o) = absurd (mixed _ _ _ _ _ x w.builds)
    one r q (file_refused s x) (otherwise w n m) = absurd (mixed _ _ _ _ _ x w.builds)
    one r q (file_refused s x) out_of_memory = inr (inl refl)
    one r q (text_refused x e) (too_large p) = absurd (omega (arith, p, x.small))
    one r q (text_refused x e) (file_refused s y) = absurd (mixed _ _ _ _ _ y x)
    one r q (text_refused {c = c} x e) (text_refused {c = d} y f) = inr (inr (ap (λ z. refused (Write z)) (refusal (sym e ∙ writes_once _ _ _ _ x y ∙ f))))
      where
        refusal : ◌≡◌ {A = Result ℕ Refusal} (Err c) (Err d) → c ≡ d
        refusal i = cc
    one r q (text_refused x e) (written w o) = absurd (unwritten _ _ _ _ _ _ x e w)
    one r q (text_refused x e) (otherwise w n m) = absurd (unwritten _ _ _ _ _ _ x e w)
    one r q (text_refused x e) out_of_memory = inr (inl refl)
    one r q (written w s) (too_large p) = absurd (omega (arith, p, w.builds.small))
    one r q (written w s) (file_refused o x) = absurd (mixed _ _ _ _ _ x w.builds)
    one r q (written w s) (text_refused x e) = absurd (unwritten _ _ _ _ _ _ x e w)
    one r q (written w s) (written v o) = inr (inr (ap Told.text (texts_once _ _ _ _ _ _ w v)))
    one r q (written w s) (otherwise v n m) = absurd (n (same_once _ _ _ _ spare spare_max w.builds v.builds s))
    one r q (written w s) out_of_memory = inr (inl refl)
    one r q (otherwise w n m) (too_large p) = absurd (omega (arith, p, w.builds.small))
    one r q (otherwise w n m) (file_refused o x) = absurd (mixed _ _ _ _ _ x w.builds)
    one r q (otherwise w n m) (text_refused x e) = absurd (unwritten _ _ _ _ _ _ x e w)
    one r q (otherwise w n m) (written v s) = absurd (n (same_once _ _ _ _ spare spare_max v.builds w.builds s))
    one r q (otherwise w n m) (otherwise v i j) = inr (inr (ap Told.otherwise (texts_once _ _ _ _ _ _ w v)))
    one r q (otherwise w n m) out_of_memory = inr (inl refl)

    pub by_length : (r : Result (Vec ℕ Global) ReduceError) → Reduces b bytes l limit max_edge spare spare_max r
        → (told r ≡ no_memory) ⊎ ((told r ≡ refused (File TooLarge) → min l.file 1048576 < length bytes) × (min l.file 1048576 < length bytes → told r ≡ refused (File TooLarge)))
    by_length r (too_large p) = inr ((λ e. omega (arith, p)), (λ e. refl))
    by_length r (file_refused {f = f} {t = t} {outputs = os} s x) = inr ((λ e. only (fault e)), (λ p. ap (λ z. refused (File z)) (large f t os x (omega (arith, s, p)))))
      where
        fault : ◌≡◌ {A = Told} (refused (File f)) (refused (File TooLarge)) → f ≡ TooLarge
        fault i = cc

        only : f ≡ TooLarge → min l.file 1048576 < length bytes
        only i = let F : CircuitFault → Type 0 = λ z. Built b bytes l limit max_edge (Err z) t os in omega (arith, only_large t os (subst F i x))
    by_length r (text_refused x e) = inr ((λ i. absurd (apart i)), (λ p. absurd (omega (arith, p, small _ _ x))))
      where
        apart : {c : Refusal} → ◌≡◌ {A = Told} (refused (Write c)) (refused (File TooLarge)) → ⊥
        apart i = let z : ◌≡◌ {A = ℕ} 0 1 = cc in omega arith
    by_length r (written w s) = inr ((λ i. absurd (apart i)), (λ p. absurd (omega (arith, p, small _ _ w.builds))))
      where
        apart : {xs : List ℕ} → ◌≡◌ {A = Told} (Told.text xs) (refused (File TooLarge)) → ⊥
        apart i = let z : ◌≡◌ {A = ℕ} 0 1 = cc in omega arith
    by_length r (otherwise w n m) = inr ((λ i. absurd (apart i)), (λ p. absurd (omega (arith, p, small _ _ w.builds))))
      where
        apart : {xs : List ℕ} → ◌≡◌ {A = Told} (Told.otherwise xs) (refused (File TooLarge)) → ⊥
        apart i = let z : ◌≡◌ {A = ℕ} 0 1 = cc in omega arith
    by_length r out_of_memory = inl refl

pub one_reduction : (b : Window → Reply) → OneReduction b
one_reduction b bytes l limit max_edge spare spare_max r q x y = one b bytes l limit max_edge spare spare_max r q x y

pub large_by_length : (b : Window → Reply) → LargeByLength b
large_by_length b bytes l limit max_edge spare spare_max r x = by_length b bytes l limit max_edge spare spare_max r x
