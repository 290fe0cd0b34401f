-- A reduction has one answer, and a file is too large by its length alone.
-- The first leaves no choice between answers, and the second tells the limits from another side.
use Rattle.std.specs.Prelude.{◌≡◌, ℕ, ◌<◌, ◌⊎◌, List, length, min, Ok, Err, vec_items, Result, Vec}
use Rattle.std.specs.declared.alloc.Global.{Global}
use Rattle.rules.specs.declared.window.Window.{Window}
use Rattle.rules.specs.declared.window.Reply.{Reply}
use Rattle.aiger_check.specs.declared.faults.CircuitFault.TheVariants.{TooLarge}
use Rattle.reduction.specs.declared.limits.Limits.{Limits}
use Rattle.reduction.specs.declared.error.Refused.{Refused as a_refused}
use Rattle.reduction.specs.declared.error.Refused.TheVariants.{File}
use Rattle.reduction.specs.declared.error.ReduceError.{ReduceError}
use Rattle.reduction.specs.declared.error.ReduceError.TheVariants.{Refused, ReadsBackOtherwise, Memory}
use Rattle.reduction.specs.Reductions.{Reduces}

-- an answer, by the bytes of its text
pub data Told : Type 0 where
  text : List ℕ → Told
  refused : a_refused → Told
  otherwise : List ℕ → Told
  no_memory : Told

abbrev pub told : Result (Vec ℕ Global) ReduceError → Told
told (Ok v) = text (vec_items v)
told (Err (Refused c)) = refused c
told (Err (ReadsBackOtherwise v)) = otherwise (vec_items v)
told (Err (Memory e)) = no_memory

-- two answers to the same file with the same limits and room are the same, unless memory ran out
abbrev pub OneReduction : (Window → Reply) → Type 0
OneReduction b =
    (bytes : List ℕ) (l : Limits) (limit max_edge spare spare_max : ℕ) (r q : Result (Vec ℕ Global) ReduceError)
    → Reduces b bytes l limit max_edge spare spare_max r → Reduces b bytes l limit max_edge spare spare_max q → (told r ≡ no_memory) ⊎ (told q ≡ no_memory) ⊎ (told r ≡ told q)

-- unless memory ran out, a file is too large just where it is longer than the limit that was given, or than any file may be
abbrev pub LargeByLength : (Window → Reply) → Type 0
LargeByLength b =
    (bytes : List ℕ) (l : Limits) (limit max_edge spare spare_max : ℕ) (r : Result (Vec ℕ Global) ReduceError)
    → Reduces b bytes l limit max_edge spare spare_max r
    → (told r ≡ no_memory) ⊎ ((told r ≡ refused (File TooLarge) → min l.file 1048576 < length bytes) × (min l.file 1048576 < length bytes → told r ≡ refused (File TooLarge)))
