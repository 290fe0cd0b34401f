use Rattle.std.proofs.Common.{◌≡◌, Some, None, arith}
use Rattle.std.proofs.lemmas.Grind.{common_steps}
use Rattle.stores.specs.Stored.{position}
use Rattle.stores.specs.Scan.{scan_pairs}
use Rattle.stores.proofs.Positions.{position_first}
use Rattle.stores.proofs.scan.calls.ScanStoreNodeStore.find.Goals as goal

pub returns-then-eq-clause-first : goal.returns-then-eq-clause-first
returns-then-eq-clause-first c =
    let here : Some c.loop-i.i ≡ position c.args.pair (scan_pairs c.args.self.now) = grind (arith, common_steps) in position_first _ _ _ here

pub returns-clause-first : goal.returns-clause-first
returns-clause-first c =
    let nowhere : None ≡ position c.args.pair (scan_pairs c.args.self.now) = grind (arith, common_steps) in position_first _ _ _ nowhere
