-- A frames file is read in one way.
use Rattle.std.proofs.Common.{◌≡◌, ℕ, ◌<◌, Bool, List, [], ◌∷◌, ◌++◌, length, drop, sym, refl, ap, ◌∙◌, ap₂, subst, inl, inr, ⊎_elim, arith, append_assoc, append-nil, length-append, suc}
use Rattle.std.specs.List.{flat_map, All}
use Rattle.std.proofs.lemmas.List.{append_cancel_right}
use Rattle.std.proofs.lemmas.List.Elements.{All-head, All-tail}
use Rattle.simulation.specs.Frames.{digits, bits, line, FramesOf, Ends, Begins, NoFrame}
use Rattle.simulation.proofs.FrameLines.{digits_back, digits_length, front}

ends_once : (a r s : List ℕ) → Ends a r → Ends a s → r ≡ s
ends_once a r s x y =
    ⊎_elim
    (λ (e : a ≡ 10 ∷ r). ⊎_elim
    (λ (d : a ≡ 10 ∷ s). ap (drop 1) (sym e ∙ d))
    (λ (d : (a ≡ []) × (s ≡ [])). absurd (omega (arith, ap length e, ap length d.0)))
    y)
    (λ (e : (a ≡ []) × (r ≡ [])). ⊎_elim
    (λ (d : a ≡ 10 ∷ s). absurd (omega (arith, ap length d, ap length e.0)))
    (λ (d : (a ≡ []) × (s ≡ [])). e.1 ∙ sym d.1)
    y)
    x

module _ (n : ℕ) where
  begins_once : (bytes : List ℕ) (f g : List Bool) (r s : List ℕ) → Begins n bytes f r → Begins n bytes g s → (f ≡ g) × (r ≡ s)
  begins_once bytes f g r s x y =
      let a = front n bytes f r x in
      let b = front n bytes g s y in
      let E : List ℕ → Type 0 = λ z. Ends z s in (
        sym (digits_back f) ∙ ap bits (sym a.0 ∙ b.0) ∙ digits_back g,
        ends_once x.after r s x.ends (subst E (sym b.1 ∙ a.1) y.ends),
      )

  -- the last line ends too, where the file is given one end more
  last_end : (f : List Bool) (fs : List (List Bool)) → (r : List ℕ) × (flat_map line (f ∷ fs) ≡ r ++ (10 ∷ []))
  last_end f [] = (digits f, append-nil (line f))
  last_end f (g ∷ fs) = let more = last_end g fs in (line f ++ more.0, ap (λ z. line f ++ z) more.1 ∙ sym (append_assoc (line f) more.0 (10 ∷ [])))

  -- the first line of a file of frames, and the file after it
  record First (bytes : List ℕ) (f : List Bool) (fs : List (List Bool)) : Type 0 where
    rest : List ℕ
    begins : Begins n bytes f rest
    others : FramesOf n rest fs

  line_first : (bytes : List ℕ) (f : List Bool) (rest : List ℕ) → length f ≡ n → bytes ≡ line f ++ rest → Begins n bytes f rest
  line_first bytes f rest w e = record { width = w; after = 10 ∷ rest; begins = e ∙ append_assoc (digits f) (10 ∷ []) rest; ends = inl refl }

  first_of : (bytes : List ℕ) (f : List Bool) (fs : List (List Bool)) → FramesOf n bytes (f ∷ fs) → First bytes f fs
  first_of bytes f [] x =
      let w = All-head (λ f. length f ≡ n) f [] x.width in
      ⊎_elim
      (λ (e : bytes ≡ line f ++ []). record { rest = []; begins = line_first bytes f [] w e; others = record { width = λ k d h. absurd (omega arith); file = inl refl } })
      (λ (e : (0 < n) × (bytes ++ (10 ∷ []) ≡ line f ++ [])). record {
        rest = [];
        begins = record { width = w; after = []; begins = append_cancel_right bytes (digits f) (10 ∷ []) (e.1 ∙ append-nil (line f)) ∙ sym (append-nil (digits f)); ends = inr (refl, refl) };
        others = record { width = λ k d h. absurd (omega arith); file = inl refl };
      })
      x.file
  first_of bytes f (g ∷ fs) x =
      let w = All-head (λ f. length f ≡ n) f (g ∷ fs) x.width in
      let v = All-tail (λ f. length f ≡ n) f (g ∷ fs) x.width in
      let l = last_end g fs in
      ⊎_elim
      (λ (e : bytes ≡ line f ++ flat_map line (g ∷ fs)). record { rest = flat_map line (g ∷ fs); begins = line_first bytes f (flat_map line (g ∷ fs)) w e; others = record { width = v; file = inl refl } })
      (λ (e : (0 < n) × (bytes ++ (10 ∷ []) ≡ line f ++ flat_map line (g ∷ fs))). record {
        rest = l.0;
        begins = line_first bytes f l.0 w (append_cancel_right bytes (line f ++ l.0) (10 ∷ []) (e.1 ∙ ap (λ z. line f ++ z) l.1 ∙ sym (append_assoc (line f) l.0 (10 ∷ []))));
        others = record { width = v; file = inr (e.0, sym l.1) };
      })
      x.file

  no_bytes : (bytes : List ℕ) → FramesOf n bytes [] → length bytes ≡ 0
  no_bytes bytes x =
      ⊎_elim
      (λ (e : bytes ≡ []). ap length e)
      (λ (e : (0 < n) × (bytes ++ (10 ∷ []) ≡ [])). absurd (omega (arith, ap length e.1, length-append bytes (10 ∷ []))))
      x.file

  some_bytes : (bytes : List ℕ) (f : List Bool) (fs : List (List Bool)) → FramesOf n bytes (f ∷ fs) → 0 < length bytes
  some_bytes bytes f fs x =
      let w = All-head (λ f. length f ≡ n) f fs x.width in
      let l = length-append (digits f) (10 ∷ []) in
      let m = length-append (line f) (flat_map line fs) in
      ⊎_elim
      (λ (e : bytes ≡ line f ++ flat_map line fs). omega (arith, ap length e, l, m))
      (λ (e : (0 < n) × (bytes ++ (10 ∷ []) ≡ line f ++ flat_map line fs)). omega (arith, ap length e.1, l, m, length-append bytes (10 ∷ []), w, digits_length f))
      x.file

  pub frames_once : (fs gs : List (List Bool)) (bytes : List ℕ) → FramesOf n bytes fs → FramesOf n bytes gs → fs ≡ gs
  frames_once [] [] bytes x y = refl
  frames_once [] (g ∷ gs) bytes x y = absurd (omega (arith, no_bytes bytes x, some_bytes bytes g gs y))
  frames_once (f ∷ fs) [] bytes x y = absurd (omega (arith, no_bytes bytes y, some_bytes bytes f fs x))
  frames_once (f ∷ fs) (g ∷ gs) bytes x y =
      let a = first_of bytes f fs x in
      let b = first_of bytes g gs y in
      let same = begins_once bytes f g a.rest b.rest a.begins b.begins in
      ap₂ (λ z zs. z ∷ zs) same.0 (frames_once fs gs b.rest (subst (λ z. FramesOf n z fs) same.1 a.others) b.others)

  -- lines of frames before bytes that begin with none
  record Stops (bytes : List ℕ) (fs : List (List Bool)) (rest : List ℕ) : Type 0 where
    width : All (λ f. length f ≡ n) fs
    file : bytes ≡ flat_map line fs ++ rest
    there : 0 < length rest
    none : (f : List Bool) (more : List ℕ) → Begins n rest f more → ⊥

  stops : (bytes : List ℕ) (k : ℕ) (x : NoFrame n bytes k) → Stops bytes x.before x.rest
  stops bytes k x = record { width = x.width; file = x.file; there = x.there; none = x.none }

  stops_begins : (bytes : List ℕ) (f : List Bool) (fs : List (List Bool)) (rest : List ℕ) → Stops bytes (f ∷ fs) rest → Begins n bytes f (flat_map line fs ++ rest)
  stops_begins bytes f fs rest x = line_first bytes f (flat_map line fs ++ rest) (All-head (λ f. length f ≡ n) f fs x.width) (x.file ∙ append_assoc (line f) (flat_map line fs) rest)

  stops_later : (bytes : List ℕ) (f : List Bool) (fs : List (List Bool)) (rest : List ℕ) → Stops bytes (f ∷ fs) rest → Stops (flat_map line fs ++ rest) fs rest
  stops_later bytes f fs rest x = record { width = All-tail (λ f. length f ≡ n) f fs x.width; file = refl; there = x.there; none = x.none }

  -- no frame begins where the lines stop
  stopped_here : (bytes rest : List ℕ) (g : List Bool) (more : List ℕ) → Stops bytes [] rest → Begins n bytes g more → ⊥
  stopped_here bytes rest g more x b = let B : List ℕ → Type 0 = λ z. Begins n z g more in x.none g more (subst B x.file b)

  stop_once : (fs gs : List (List Bool)) (bytes r s : List ℕ) → Stops bytes fs r → Stops bytes gs s → length fs ≡ length gs
  stop_once [] [] bytes r s x y = refl
  stop_once [] (g ∷ gs) bytes r s x y = absurd (stopped_here bytes r g _ x (stops_begins bytes g gs s y))
  stop_once (f ∷ fs) [] bytes r s x y = absurd (stopped_here bytes s f _ y (stops_begins bytes f fs r x))
  stop_once (f ∷ fs) (g ∷ gs) bytes r s x y =
      let same = begins_once bytes f g _ _ (stops_begins bytes f fs r x) (stops_begins bytes g gs s y) in
      let S : List ℕ → Type 0 = λ z. Stops z fs r in
      ap (λ m. suc m) (stop_once fs gs (flat_map line gs ++ s) r s (subst S same.1 (stops_later bytes f fs r x)) (stops_later bytes g gs s y))

  stop_apart : (fs gs : List (List Bool)) (bytes r : List ℕ) → Stops bytes fs r → FramesOf n bytes gs → ⊥
  stop_apart [] [] bytes r x y = omega (arith, x.there, ap length x.file, no_bytes bytes y)
  stop_apart [] (g ∷ gs) bytes r x y = let b = first_of bytes g gs y in stopped_here bytes r g b.rest x b.begins
  stop_apart (f ∷ fs) [] bytes r x y = omega (arith, x.there, ap length x.file, length-append (flat_map line (f ∷ fs)) r, no_bytes bytes y)
  stop_apart (f ∷ fs) (g ∷ gs) bytes r x y =
      let b = first_of bytes g gs y in
      let same = begins_once bytes f g _ b.rest (stops_begins bytes f fs r x) b.begins in
      let S : List ℕ → Type 0 = λ z. Stops z fs r in
      stop_apart fs gs b.rest r (subst S same.1 (stops_later bytes f fs r x)) b.others

  pub no_frame_once : (bytes : List ℕ) (k j : ℕ) → NoFrame n bytes k → NoFrame n bytes j → k ≡ j
  no_frame_once bytes k j x y = omega (arith, x.number, y.number, stop_once x.before y.before bytes x.rest y.rest (stops bytes k x) (stops bytes j y))

  pub no_frame_apart : (bytes : List ℕ) (k : ℕ) (fs : List (List Bool)) → NoFrame n bytes k → FramesOf n bytes fs → ⊥
  no_frame_apart bytes k fs x y = stop_apart x.before fs bytes x.rest (stops bytes k x) y
