-- Lists that are filled place by place.
use Rattle.std.proofs.Common.{◌≡◌, ℕ, zero, suc, ◌+◌, List, [], ◌∷◌, ◌++◌, map, take, replicate, Some, sym, refl, ap, ◌∙◌, add-one, arith}
use Rattle.std.specs.List.{slice_get, range_with_len}

-- the same for each of a range's numbers
pub range_map : {A : Type 0} (i n : ℕ) (a : A) → map (λ (k : ℕ). a) (range_with_len i n) ≡ replicate n a
range_map i zero a = refl
range_map i (suc n) a = ap (λ l. a ∷ l) (range_map (i + 1) n a)

take_next : {A : Type 0} (xs : List A) (i : ℕ) (x : A) → slice_get xs i ≡ Some x → take i xs ++ (x ∷ []) ≡ take (suc i) xs
take_next [] i x h = let z : ◌≡◌ {A = ℕ} 0 1 = cc in absurd (omega arith)
take_next (y ∷ ys) zero x h = let e : x ≡ y = cc in ap (λ z. z ∷ []) e
take_next (y ∷ ys) (suc i) x h = ap (λ l. y ∷ l) (take_next ys i x h)

pub take_nth : {A : Type 0} (xs : List A) (i : ℕ) (x : A) → slice_get xs i ≡ Some x → take i xs ++ (x ∷ []) ≡ take (i + 1) xs
take_nth xs i x h = take_next xs i x h ∙ ap (λ n. take n xs) (sym (add-one i))
