use Rattle.std.proofs.Common.{◌≡◌, drop}
use Rattle.stores.specs.Stored.{position, position_from}
use Rattle.stores.specs.Scan.{scan_pairs}
use Rattle.stores.proofs.scan.calls.ScanStoreNodeStore.find.Given as goal

-- what is left of the records decides the answer
abbrev pub invariant-loop-i : goal.invariant-loop-i
invariant-loop-i l = position_from l.i l.pair (drop l.i l.stored-items) ≡ position l.pair (scan_pairs l.self)
