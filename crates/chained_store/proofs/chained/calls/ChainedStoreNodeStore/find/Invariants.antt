use Rattle.std.proofs.Common.{length}
use Rattle.chained_store.proofs.Walks.{Walk}
use Rattle.chained_store.proofs.chained.calls.ChainedStoreNodeStore.find.Given as goal

abbrev pub invariant-loop-at : goal.invariant-loop-at
invariant-loop-at l = Walk (length l.self.heads.now) l.self.records.now l.self.len l.pair l.link l.found

abbrev pub decreases-loop-at : goal.decreases-loop-at
decreases-loop-at l = l.link
