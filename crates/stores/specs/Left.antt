-- The pairs that are still to come when a store's pairs are gone over.
-- What is yet to come is a tail of the stored list.
use Rattle.std.specs.Prelude.{List, drop}
use Rattle.rules.specs.declared.pair.Pair.{Pair}
use Rattle.stores.specs.declared.pairs.Pairs.{Pairs}
use Rattle.stores.specs.Stored.{StoreModel}

-- those from the next position on
abbrev pub left : {S : Type 0} → StoreModel S → Pairs S → List Pair
left m p = drop p.next (m.pairs p.store.now)
