-- Bytes cut at their first space.
-- The two parts, put together, are the bytes.
use Rattle.std.specs.Prelude.{◌≡◌, ℕ, ◌⊎◌, List, [], ◌∷◌, ◌++◌, ◌≢◌}
use Rattle.std.specs.List.{AllByRecursion}

abbrev pub Spaceless : List ℕ → Type 0
Spaceless bs = AllByRecursion (λ (b : ℕ). b ≢ 32) bs

-- nothing, or a space and what follows it
abbrev pub Spaced : List ℕ → Type 0
Spaced bs = (bs ≡ []) ⊎ ((rest : List ℕ) × (bs ≡ 32 ∷ rest))

-- the bytes before the first space, and those from it on
pub record Cut (bs xs ys : List ℕ) : Type 0 where
  pub whole : bs ≡ xs ++ ys
  pub first : Spaceless xs
  pub more : Spaced ys
