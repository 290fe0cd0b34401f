-- Chains of records with one hash, newest first.
-- That `find` is right does not rest on the hash, which may be any function of the pair: only speed does.
use Rattle.std.specs.Prelude.{◌≡◌, ℕ, zero, suc, ◌+◌, ◌-◌, ◌*◌, ◌/◌, ◌%◌, ◌^◌, ◌<◌, min, ◌&&◌, List, length, Some, None, Option, ◌==◌, bit_xor, nat_le, slice_index, slice_index_or, if◌then◌else◌}
use Rattle.rules.specs.declared.pair.Pair.{Pair}
use Rattle.rules.specs.Edges.{edge}
use Rattle.rules.specs.Pairs.{pair_of}
use Rattle.chained_store.specs.declared.record.ChainRecord.{ChainRecord}

-- what is read where there is no record
abbrev pub no_record : ChainRecord
no_record = record { pair = pair_of (edge 0) (edge 0); next = 0 }

-- the record that a link leads to: 0 ends the chain, k + 1 leads to record k
abbrev pub target : ℕ → Option ℕ
target link = if link == 0 then None else Some (link - 1)

-- how many pairs a store keeps, by the number of its records and heads
abbrev pub capacity : ℕ → ℕ → ℕ
capacity records heads = if nat_le 1 heads && nat_le heads 65536 then min records 1000000 else 0

-- a 64-bit number times an odd one
unfoldable pub spread : ℕ → ℕ
spread n = n * 11400714819323198485 % 2 ^ 64

-- a number below 2^32 in which every bit of both edges counts
unfoldable pub hash : Pair → ℕ
hash p = spread (bit_xor (spread (p.larger.0 * 4294967296 + p.smaller.0)) (spread (p.larger.0 * 4294967296 + p.smaller.0) / 2 ^ 32)) / 2 ^ 32

-- the chain that a pair joins, of n
unfoldable pub slot : ℕ → Pair → ℕ
slot n p = hash p * n / 2 ^ 32

-- the link to the newest of the first n records that joins chain h: 0 for none, k + 1 for record k
unfoldable pub latest : ℕ → List ChainRecord → ℕ → ℕ → ℕ
latest heads rs h zero = 0
latest heads rs h (suc n) = if slot heads (slice_index_or rs n no_record).pair == h then suc n else latest heads rs h n

-- each head leads to the newest record of its chain
abbrev pub Headed : List ChainRecord → List ℕ → ℕ → Type 0
Headed rs heads len = (h : ℕ) → h < length heads → slice_index heads h ≡ latest (length heads) rs h len

-- each record leads to the one before it in its chain
abbrev pub Linked : ℕ → List ChainRecord → ℕ → Type 0
Linked heads rs len = (k : ℕ) → k < len → (slice_index_or rs k no_record).next ≡ latest heads rs (slot heads (slice_index_or rs k no_record).pair) k
