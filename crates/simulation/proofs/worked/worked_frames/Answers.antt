use Rattle.std.proofs.Common.{◌≡◌, ℕ, Bool, true, false, List, [], ◌∷◌, codes, length, get_or, refl, ap, inl, inr, arith}
use Rattle.std.specs.Fmt.{digits}
use Rattle.std.proofs.lemmas.List.Elements.{All-from_recursion}
use Rattle.simulation.specs.Frames.{Begins}
use Rattle.simulation.specs.Worked.{two_frames}
use Rattle.simulation.proofs.worked.worked_frames.Goals as goal

-- no digit stands at the line's end
no_frame : (f : List Bool) (more : List ℕ) → Begins 2 (codes "1\n10\n") f more → ⊥
no_frame [] more x = omega (arith, x.width)
no_frame (a ∷ []) more x = omega (arith, x.width)
no_frame (a ∷ true ∷ []) more x = omega (arith, ap (λ l. get_or l 1 0) x.begins)
no_frame (a ∷ false ∷ []) more x = omega (arith, ap (λ l. get_or l 1 0) x.begins)
no_frame (a ∷ b ∷ c ∷ f) more x = omega (arith, x.width)

pub returns : goal.returns
unfolding digits
returns c = record {
  ended = record { width = All-from_recursion (λ (f : List Bool). length f ≡ 2) two_frames (refl, (refl, tt)); file = inl refl };
  unended = record { width = All-from_recursion (λ (f : List Bool). length f ≡ 2) two_frames (refl, (refl, tt)); file = inr (omega arith, refl) };
  short = record {
    before = (false ∷ true ∷ []) ∷ [];
    rest = codes "1\n10\n";
    width = All-from_recursion (λ (f : List Bool). length f ≡ 2) ((false ∷ true ∷ []) ∷ []) (refl, tt);
    file = refl;
    there = omega arith;
    none = no_frame;
    number = refl;
  };
  row = refl;
  refused = refl;
  frame = refl;
}
