-- What a checker keeps.
-- It says only what a step leaves alone.
use Rattle.std.specs.Prelude.{◌≡◌}
use Rattle.aiger_check.specs.declared.checker.Checker.{Checker}

-- d has the header of c, and writes the same buffers
abbrev pub SameFile : Checker → Checker → Type 0
SameFile c d = (d.header ≡ c.header) × (d.map.ghost_name ≡ c.map.ghost_name) × (d.outputs.ghost_name ≡ c.outputs.ghost_name)
