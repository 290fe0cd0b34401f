use Rattle.std.proofs.Common.{sym, ◌∙◌}
use Rattle.stores.proofs.Dropped.{drop_at, drop_past}
use Rattle.stores.proofs.pairs.calls.PairsIterator.next.Goals as goal

pub returns-in_err-pair-clause-steps : goal.returns-in_err-pair-clause-steps
returns-in_err-pair-clause-steps g c =
    let s = c.args.self.now in
    let none = drop_past (g.S.NodeStore.model.pairs s.store.now) s.next (sym c.get.ensures ∙ c.in_err-pair.was) in
    rw c.from_residual.ensures (none, none)

pub returns-clause-steps : goal.returns-clause-steps
returns-clause-steps g c =
    let s = c.args.self.now in
    drop_at (g.S.NodeStore.model.pairs s.store.now) s.next c.in_ok-pair.pair (sym c.get.ensures ∙ c.in_ok-pair.was)
