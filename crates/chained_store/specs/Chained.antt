-- What a chained store means.
-- The list is that of the records in use; neither heads nor links occur in it.
use Rattle.std.specs.Prelude.{ℕ, ◌+◌, ◌*◌, ◌≤◌, List, map, length, take}
use Rattle.std.proofs.Common.{arith, length-take}
use Rattle.std.proofs.lemmas.List.{length-map}
use Rattle.rules.specs.declared.pair.Pair.{Pair}
use Rattle.stores.specs.Stored.{StoreModel}
use Rattle.chained_store.specs.declared.record.ChainRecord.{ChainRecord}
use Rattle.chained_store.specs.declared.chained.ChainedStore.{ChainedStore}

-- the pair of a record
abbrev pub record_pair : ChainRecord → Pair
record_pair r = r.pair

-- the pairs of the first n records
abbrev pub first_pairs : ℕ → List ChainRecord → List Pair
first_pairs n rs = map record_pair (take n rs)

-- the pairs of the first `len` records
abbrev pub chained_pairs : ChainedStore → List Pair
chained_pairs s = first_pairs s.len s.records.now

-- the number that was settled when the store was made
abbrev pub chained_limit : ChainedStore → ℕ
chained_limit s = s.limit

-- every edge can be kept
abbrev pub chained_max_edge : ChainedStore → ℕ
chained_max_edge s = 4294967295

pub chained_within : (s : ChainedStore) → length (chained_pairs s) ≤ chained_limit s
chained_within s = simp (length-map, length-take) (omega (arith, s.held))

pub chained_roomy : (s : ChainedStore) → 2 * (chained_limit s + 4096) + 1 ≤ chained_max_edge s
chained_roomy s = omega (arith, s.few)

abbrev pub chained_model : StoreModel ChainedStore
chained_model = record { pairs = chained_pairs; limit = chained_limit; max_edge = chained_max_edge; capped = λ s. s.few; roomy = chained_roomy; within = chained_within }
