-- What a node store's calls mean on its list of pairs.
-- `First` says which position is meant without the search for it; the other calls are the list's own.
use Rattle.std.specs.Prelude.{◌≡◌, ℕ, ◌+◌, ◌*◌, ◌<◌, ◌≤◌, Bool, ◌&&◌, List, [], ◌∷◌, ◌++◌, length, Some, None, Option, ◌==◌, ◌≢◌, nat_le, nat_lt, if◌then◌else◌}
use Rattle.std.specs.List.{slice_get}
use Rattle.rules.specs.declared.pair.Pair.{Pair}

-- two pairs have the same edges
abbrev pub same_pair : Pair → Pair → Bool
same_pair p q = p.larger.0 == q.larger.0 && p.smaller.0 == q.smaller.0

-- the first position that holds p, where the list begins at position `from`
abbrev pub position_from : ℕ → Pair → List Pair → Option ℕ
position_from from p [] = None
position_from from p (q ∷ qs) = if same_pair q p then Some from else position_from (from + 1) p qs

-- the first position that holds p
abbrev pub position : Pair → List Pair → Option ℕ
position p qs = position_from 0 p qs

-- p stands at the position, or nowhere
abbrev pub Found : List Pair → Pair → Option ℕ → Type 0
Found ps p (Some i) = slice_get ps i ≡ Some p
Found ps p None = (i : ℕ) → slice_get ps i ≢ Some p

-- p stands at the position and at no earlier one, or nowhere
abbrev pub First : List Pair → Pair → Option ℕ → Type 0
First ps p (Some i) = (slice_get ps i ≡ Some p) × ((j : ℕ) → j < i → slice_get ps j ≢ Some p)
First ps p None = (i : ℕ) → slice_get ps i ≢ Some p

-- an append is accepted: there is room, and both edges can be kept
abbrev pub accepts : ℕ → ℕ → List Pair → Pair → Bool
accepts limit max_edge qs p = nat_lt (length qs) limit && (nat_le p.larger.0 max_edge && nat_le p.smaller.0 max_edge)

-- the list after an append
abbrev pub joined : ℕ → ℕ → List Pair → Pair → List Pair
joined limit max_edge qs p = if accepts limit max_edge qs p then qs ++ p ∷ [] else qs

-- what a store stands for: its pairs, oldest first, how many fit, and the largest edge that can be kept
pub record StoreModel (S : Type 0) : Type 0 where
  pub pairs : S → List Pair
  pub limit : S → ℕ
  pub max_edge : S → ℕ
  pub capped : (s : S) → limit s ≤ 1000000
  pub roomy : (s : S) → 2 * (limit s + 4096) + 1 ≤ max_edge s
  pub within : (s : S) → length (pairs s) ≤ limit s
