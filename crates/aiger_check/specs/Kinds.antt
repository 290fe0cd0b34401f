-- The kinds of lines, by their first bytes.
-- The kinds exclude one another, and each line has one.
use Rattle.std.specs.Prelude.{◌≡◌, ℕ, ◌⊎◌, List, ◌++◌, codes, ◌≢◌, slice_index}
use Rattle.aiger_check.specs.declared.line.Line.{Line}
use Rattle.aiger_check.specs.declared.line.Line.TheVariants.{Header, Numbers, Name, Comment}
use Rattle.aiger_check.specs.Names.{comment}

abbrev pub bytes : Line → List ℕ
bytes (Header s) = s.now
bytes (Numbers s) = s.now
bytes (Name s) = s.now
bytes (Comment s) = s.now

-- the first byte is `i` or `o`
abbrev pub Naming : List ℕ → Type 0
Naming bs = (slice_index bs 0 ≡ 105) ⊎ (slice_index bs 0 ≡ 111)

-- the first bytes are `aag` and a space
abbrev pub Heading : List ℕ → Type 0
Heading bs = (rest : List ℕ) × (bs ≡ codes "aag " ++ rest)

abbrev pub Kind : Line → Type 0
Kind (Header s) = Heading s.now
Kind (Numbers s) = (Heading s.now → ⊥) × (Naming s.now → ⊥) × (s.now ≢ comment)
Kind (Name s) = Naming s.now
Kind (Comment s) = s.now ≡ comment

-- these bytes are of this kind
abbrev pub Kinded : List ℕ → Line → Type 0
Kinded bs l = (bytes l ≡ bs) × Kind l
