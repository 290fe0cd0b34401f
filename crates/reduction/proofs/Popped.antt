-- What a list was before its last element was taken.
use Rattle.std.proofs.Common.{◌≡◌, List, [], ◌∷◌, ◌++◌, map, length, sym, ap, ◌∙◌, arith}
use Rattle.std.proofs.lemmas.List.{length_push, map_push}

-- one element that was told is the only one
pub only_told : {A B : Type 0} (f : A → B) (xs ys : List A) (a : A) (b : B) → xs ≡ ys ++ (a ∷ []) → map f xs ≡ b ∷ [] → map f xs ≡ f a ∷ []
only_told f xs [] a b e h = ap (map f) e
only_told f xs (y ∷ ys) a b e h =
    absurd (omega (arith, ap length (sym h ∙ ap (map f) e ∙ map_push f (y ∷ ys) a), length_push (f y ∷ map f ys) (f a)))

-- one more after those that were told
pub more_told : {A B : Type 0} (f : A → B) (xs ys : List A) (a : A) (bs : List B) → xs ≡ ys ++ (a ∷ []) → map f ys ≡ bs → map f xs ≡ bs ++ (f a ∷ [])
more_told f xs ys a bs e h = ap (map f) e ∙ map_push f ys a ∙ ap (λ z. z ++ (f a ∷ [])) h
