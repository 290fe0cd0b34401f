-- The lines of a frames file, one after the other.
use Rattle.std.proofs.Common.{◌≡◌, ℕ, ◌<◌, ◌⊎◌, Bool, true, false, eqb, List, [], ◌∷◌, ◌++◌, map, length, take, drop, sym, refl, ap, ◌∙◌, ap₂, inl, inr, ⊎_elim, arith, append_assoc, append-nil, take-append-drop, length-append, Bor}
use Rattle.std.specs.List.{list_all, flat_map, All}
use Rattle.std.proofs.lemmas.Bool.{and_parts, and_from, or_cases, eqb-true}
use Rattle.std.proofs.lemmas.List.{take_at, drop_at, length-map, map_push, flat_map_more}
use Rattle.std.proofs.lemmas.List.Elements.{All-push}
use Rattle.simulation.specs.Frames.{digit, digits, binary, bits, line, Ends, Begins, Shows}

digit_shown : (b : ℕ) → binary b ≡ true → digit (eqb b 49) ≡ b
digit_shown b h =
    ⊎_elim
    (λ (z : eqb b 48 ≡ true). let e : b ≡ 48 = eqb-true b 48 z in ap (λ (n : ℕ). digit (eqb n 49)) e ∙ sym e)
    (λ (o : eqb b 49 ≡ true). let e : b ≡ 49 = eqb-true b 49 o in ap (λ (n : ℕ). digit (eqb n 49)) e ∙ sym e)
    (or_cases (eqb b 48) (eqb b 49) h)

-- a bit from its digit, and a frame from its digits
pub digit_back : (b : Bool) → eqb (digit b) 49 ≡ b
digit_back true = refl
digit_back false = refl

pub digits_back : (f : List Bool) → bits (digits f) ≡ f
digits_back [] = refl
digits_back (b ∷ f) = ap₂ (λ x xs. x ∷ xs) (digit_back b) (digits_back f)

-- bytes that are digits show the frame of their bits
pub shown : (bs : List ℕ) → list_all binary bs ≡ true → digits (bits bs) ≡ bs
shown [] h = refl
shown (b ∷ bs) h = let p = and_parts (binary b) (list_all binary bs) h in ap₂ (λ x xs. x ∷ xs) (digit_shown b p.0) (shown bs p.1)

digit_binary : (b : Bool) → binary (digit b) ≡ true
digit_binary true = refl
digit_binary false = refl

pub all_binary : (f : List Bool) → list_all binary (digits f) ≡ true
all_binary [] = refl
all_binary (b ∷ f) = and_from _ _ (digit_binary b) (all_binary f)

pub digits_length : (f : List Bool) → length (digits f) ≡ length f
digits_length f = length-map f digit

-- ---- the first line
pub front : (n : ℕ) (bytes : List ℕ) (f : List Bool) (rest : List ℕ) (b : Begins n bytes f rest) → (take n bytes ≡ digits f) × (drop n bytes ≡ b.after)
front n bytes f rest b =
    let l : length (digits f) ≡ n = digits_length f ∙ b.width in (
      ap (take n) b.begins ∙ take_at (digits f) b.after n l,
      ap (drop n) b.begins ∙ drop_at (digits f) b.after n l,
    )

pub begun : (n : ℕ) (bytes frame after rest : List ℕ) → frame ≡ take n bytes → after ≡ drop n bytes → length frame ≡ n → list_all binary frame ≡ true → Ends after rest → Begins n bytes (bits frame) rest
begun n bytes frame after rest e d l h ends = record {
  width = length-map frame (λ b. eqb b 49) ∙ l;
  after = after;
  begins = sym (take-append-drop n bytes) ∙ ap₂ (λ x y. x ++ y) (sym e ∙ sym (shown frame h)) (sym d);
  ends = ends;
}

-- ---- the lines so far
pub record SoFar (n : ℕ) (bytes : List ℕ) (ls : List (Bor (List ℕ))) (rest : List ℕ) : Type 0 where
  pub frames : List (List Bool)
  pub shows : Shows ls frames
  pub width : All (λ f. length f ≡ n) frames
  pub file : (bytes ≡ flat_map line frames ++ rest) ⊎ ((rest ≡ []) × (0 < n) × (bytes ++ (10 ∷ []) ≡ flat_map line frames))

flat_push : (fs : List (List Bool)) (f : List Bool) → flat_map line (fs ++ (f ∷ [])) ≡ flat_map line fs ++ line f
flat_push fs f = sym (flat_map_more line [] fs f)

pub one_more : (n : ℕ) (bytes : List ℕ) (ls ms : List (Bor (List ℕ))) (l : Bor (List ℕ)) (rest more : List ℕ) (f : List Bool) → ms ≡ ls ++ (l ∷ []) → l.now ≡ digits f → 0 < length rest → Begins n rest f more → SoFar n bytes ls rest → SoFar n bytes ms more
one_more n bytes ls ms l rest more f push is some b s =
    let F = flat_map line s.frames in
    record {
      frames = s.frames ++ (f ∷ []);
      shows = ap (map (λ (l : Bor (List ℕ)). l.now)) push ∙ map_push (λ (l : Bor (List ℕ)). l.now) ls l ∙ ap₂ (λ x y. x ++ (y ∷ [])) s.shows is ∙ sym (map_push digits s.frames f);
      width = All-push (λ f. length f ≡ n) s.frames f s.width b.width;
      file = ⊎_elim
          (λ (here : bytes ≡ F ++ rest). ⊎_elim
          (λ (e : b.after ≡ 10 ∷ more). inl (
          here ∙ ap (λ x. F ++ x) (b.begins ∙ ap (λ x. digits f ++ x) e)
          ∙ ap (λ x. F ++ x) (sym (append_assoc (digits f) (10 ∷ []) more))
          ∙ sym (append_assoc F (line f) more) ∙ ap (λ x. x ++ more) (sym (flat_push s.frames f))))
          (λ (e : (b.after ≡ []) × (more ≡ [])). inr (
            e.1,
            omega (arith, some, ap length b.begins, length-append (digits f) b.after, ap length e.0, digits_length f, b.width),
            ap (λ x. x ++ (10 ∷ [])) (here ∙ ap (λ x. F ++ x) (b.begins ∙ ap (λ x. digits f ++ x) e.0 ∙ append-nil (digits f)))
                ∙ append_assoc F (digits f) (10 ∷ []) ∙ sym (flat_push s.frames f),
          ))
          b.ends)
          (λ (past : (rest ≡ []) × (0 < n) × (bytes ++ (10 ∷ []) ≡ F)). absurd (omega (arith, some, ap length past.0)))
          s.file;
    }
