use Rattle.std.proofs.Common.{◌≡◌, take}
use Rattle.chained_store.specs.Chained.{chained_pairs}
use Rattle.chained_store.proofs.chained.calls.ChainedStoreNodeStore.truncate.Given as goal

-- only the length and the heads change, and no pair before n goes
abbrev pub invariant-loop-at : goal.invariant-loop-at
invariant-loop-at l =
    (l.self.len ≡ l.at)
    × (l.self.limit ≡ l.initial.self.limit)
    × (l.self.records.now ≡ l.initial.self.records.now)
    × (take l.n (chained_pairs l.self) ≡ take l.n (chained_pairs l.initial.self))
