-- The arguments of a program that takes the names of files, by their bytes.
-- A name is told by its first byte.
use Rattle.std.specs.Prelude.{◌≡◌, ℕ, Bool, true, false, not, ◌&&◌, ◌==◌, List, map, length, nat_le, slice_index, bytes_eq, codes, string_bytes, vec_items, Option, Some, None, String, Vec}
use Rattle.std.specs.List.{list_all, list_any}
use Rattle.std.specs.declared.alloc.Global.{Global}

-- it does not begin with a hyphen
abbrev pub is_name : List ℕ → Bool
is_name w = not (slice_index w 0 == 45)

-- so many names at most
abbrev pub are_names : List (List ℕ) → ℕ → Bool
are_names ws most = nat_le (length ws) most && list_all is_name ws

-- whether one asks for the usage text
abbrev pub usage_asked : List (List ℕ) → Bool
usage_asked ws = list_any (λ w. bytes_eq w (codes "--help")) ws

-- what a program of so many names at most takes them for: none where the usage text is asked for, else the names that they are
abbrev pub Taken : List (List ℕ) → ℕ → Option (Vec (String Global) Global) → Type 0
Taken ws most None = usage_asked ws ≡ true
Taken ws most (Some v) = (usage_asked ws ≡ false) × (are_names ws most ≡ true) × (map string_bytes (vec_items v) ≡ ws)
