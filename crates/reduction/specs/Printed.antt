-- What is printed of a circuit file that is reduced.
-- The text is that of a reduction, whose definition stands beside it.
use Rattle.std.specs.Prelude.{◌≡◌, ℕ, List, ◌++◌, codes, Ok, Err, vec_items, Result, Vec}
use Rattle.std.specs.declared.alloc.Global.{Global}
use Rattle.rules.specs.RuleLists.{by_rules}
use Rattle.rulesets.specs.declared.levels.OptLevel.TheVariants.{Three}
use Rattle.rulesets.specs.Levels.{level_rules}
use Rattle.reduction.specs.declared.limits.Limits.{Limits}
use Rattle.reduction.specs.declared.error.ReduceError.{ReduceError}
use Rattle.reduction.specs.declared.error.ReduceError.TheVariants.{Refused, ReadsBackOtherwise, Memory}
use Rattle.reduction.specs.Reductions.{Reduces}
use Rattle.reduction.specs.Refusals.{refused_text}

abbrev pub limits : Limits
limits = record { file = 65536; places = 8192; outputs = 4096; text = 65536 }

-- reduced at level three, in graphs with room for 4,000 pairs
abbrev pub Pressed : List ℕ → Result (Vec ℕ Global) ReduceError → Type 0
Pressed bytes r = Reduces (by_rules (level_rules Three)) bytes limits 4000 4294967295 4000 4294967295 r

-- the written circuit, or the line of its refusal; the circuit always reads back as it was, and nothing else is said where memory runs out
abbrev pub Told : Result (Vec ℕ Global) ReduceError → Result (Vec ℕ Global) ReduceError → Type 0
Told (Ok text) r = r ≡ Ok text
Told (Err (Refused c)) (Ok line) = vec_items line ≡ refused_text c ++ codes "\n"
Told (Err (Refused c)) (Err (Refused d)) = ⊥
Told (Err (Refused c)) (Err (ReadsBackOtherwise text)) = ⊥
Told (Err (Refused c)) (Err (Memory e)) = Unit {0}
Told (Err (ReadsBackOtherwise text)) r = ⊥
Told (Err (Memory e)) r = r ≡ Err (Memory e)

abbrev pub Printed : List ℕ → Result (Vec ℕ Global) ReduceError → Type 0
Printed bytes r = (reduced : Result (Vec ℕ Global) ReduceError) × Pressed bytes reduced × Told reduced r
