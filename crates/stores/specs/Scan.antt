-- What a scan store means.
-- Only the records in use count, and no record beyond them can be seen.
use Rattle.std.specs.Prelude.{ℕ, ◌+◌, ◌*◌, ◌≤◌, min, List, length, take}
use Rattle.std.proofs.Common.{arith, length-take}
use Rattle.rules.specs.declared.pair.Pair.{Pair}
use Rattle.stores.specs.declared.scan.ScanStore.{ScanStore}
use Rattle.stores.specs.Stored.{StoreModel}

-- the first `len` records
abbrev pub scan_pairs : ScanStore → List Pair
scan_pairs s = take s.len s.records.now

-- the number of records, at most 1,000,000
abbrev pub scan_limit : ScanStore → ℕ
scan_limit s = min (length s.records.now) 1000000

-- every edge can be kept
abbrev pub scan_max_edge : ScanStore → ℕ
scan_max_edge s = 4294967295

pub scan_within : (s : ScanStore) → length (scan_pairs s) ≤ scan_limit s
scan_within s = simp length-take (omega (arith, s.held, s.few))

pub scan_capped : (s : ScanStore) → scan_limit s ≤ 1000000
scan_capped s = omega arith

pub scan_roomy : (s : ScanStore) → 2 * (scan_limit s + 4096) + 1 ≤ scan_max_edge s
scan_roomy s = omega arith

abbrev pub scan_model : StoreModel ScanStore
scan_model = record { pairs = scan_pairs; limit = scan_limit; max_edge = scan_max_edge; capped = scan_capped; roomy = scan_roomy; within = scan_within }
