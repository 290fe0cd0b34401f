-- An array that is made by a closure which calls leave as it was.
use Rattle.std.proofs.Common.{◌≡◌, ℕ, zero, suc, ◌+◌, ◌<◌, List, map, get_or, sym, ap, ◌∙◌, arith}
use Rattle.std.specs.Array.{IsFromFnResult, IsFromFnResultFrom}
use Rattle.std.specs.List.{range_with_len}
use Rattle.std.proofs.lemmas.List.FromFn.{fill_by_all}
use denote.Param.Members.{Mut, Called}

-- P says what the closure holds; a call at j then gives h j, and leaves it so
module _ {F B : Type 0} (g : Mut F (ℕ × Unit {0}) B) (P : F → Type 0) (h : ℕ → B) (d : B) (step : (p q : F) (j : ℕ) (y : B) → P p → Called g p (j, tt) y q → (y ≡ h j) × P q) where
  each_called : (f : F) (ys : List B) (i n : ℕ) → P f → IsFromFnResultFrom g f ys i n → (k j : ℕ) → k < n → i + k ≡ j → get_or ys j d ≡ h j
  each_called f ys i zero s all k j l e = absurd (omega arith)
  each_called f ys i (suc n) s all zero j l e = let a : j ≡ i = omega arith in ap (λ m. get_or ys m d) a ∙ all.2.1 d ∙ (step f all.0 i all.1 s all.3).0 ∙ ap h (sym a)
  each_called f ys i (suc n) s all (suc k) j l e = each_called all.0 ys (i + 1) n (step f all.0 i all.1 s all.3).1 all.4 k j (omega arith) (omega arith)

  pub made_by : (f : F) (ys : List B) (n : ℕ) → P f → IsFromFnResult g f ys n → ys ≡ map h (range_with_len 0 n)
  made_by f ys n s made = fill_by_all h ys n d made.long (λ k l. each_called f ys 0 n s made.each k k l (omega arith))
