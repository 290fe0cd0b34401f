-- What a reader hands out.
-- The line handed out is that of the file, by its number.
use Rattle.std.specs.Prelude.{◌≡◌, ℕ, ◌+◌, ◌<◌, ◌≤◌, List, [], length, Some, None, Option, slice_index_or}
use Rattle.std.specs.Borrow.{Bor}
use Rattle.aiger_check.specs.Text.{lines}
use Rattle.aiger_check.specs.declared.reader.Reader.{Reader}
use Rattle.aiger_check.specs.declared.line.NumberedLine.{NumberedLine}
use Rattle.aiger_check.specs.Kinds.{Kinded}

-- all lines of the reader's file
abbrev pub all : Reader → List (List ℕ)
all r = lines r.bytes.now

-- r handed out the next line, or none, and became q
abbrev pub Stepped : Reader → Option (Bor (List ℕ)) → Reader → Type 0
Stepped r None q = (length (all r) ≤ r.number) × (q ≡ r)
Stepped r (Some l) q = (r.number < length (all r)) × (l.now ≡ slice_index_or (all r) r.number []) × (q.bytes ≡ r.bytes) × (q.number ≡ r.number + 1)

-- the same, with the line's kind and number
abbrev pub Handed : Reader → Option NumberedLine → Reader → Type 0
Handed r None q = (length (all r) ≤ r.number) × (q ≡ r)
Handed r (Some x) q = (r.number < length (all r)) × (x.number ≡ r.number + 1) × Kinded (slice_index_or (all r) r.number []) x.line × (q.bytes ≡ r.bytes) × (q.number ≡ r.number + 1)
