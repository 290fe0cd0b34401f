use Rattle.std.proofs.Common.{ℕ, ◌<◌, length, get_or, Some, None, sym, subst, arith}
use Rattle.std.proofs.lemmas.Bool.Decides.{nat_tests}
use Rattle.stores.proofs.Positions.{position_first}
use Rattle.chained_store.specs.Chains.{slot}
use Rattle.chained_store.proofs.Walks.{Walk, walk_start, walk_next, walk_end, next_falls, at_target, at_end}
use Rattle.chained_store.proofs.chained.calls.ChainedStoreNodeStore.find.Goals as goal

pub loop-at-init : goal.loop-at-init
loop-at-init c =
    let s = c.args.self.now in
    let p = c.args.pair in
    let hs = s.heads.now in
    let e = c.slot_of-slot.ensures.0 in
    let b : slot (length hs) p < length hs = subst (λ (k : ℕ). k < length hs) e c.slot_of-slot.ensures.1 in
    subst (λ (k : ℕ). Walk (length hs) s.records.now s.len p (get_or hs k 0) None) (sym e)
    (walk_start s.records.now hs s.len p s.headed b (omega arith))

pub loop-at-smaller : goal.loop-at-smaller
loop-at-smaller c = let s = c.args.self.now in next_falls _ s.records.now s.len _ s.linked (omega arith) _ _ (at_target _ _ c.in-Some.ensures) (omega arith)

pub loop-at-smaller-then-eq : goal.loop-at-smaller-then-eq
loop-at-smaller-then-eq c = let s = c.args.self.now in next_falls _ s.records.now s.len _ s.linked (omega arith) _ _ (at_target _ _ c.in-Some.ensures) (omega arith)

pub loop-at-preserved : goal.loop-at-preserved
loop-at-preserved c =
    let s = c.args.self.now in
    let e = c.if-eq.ensures in
    walk_next _ s.records.now s.len c.index-self-at.result s.linked (omega arith) c.args.pair _ c.in-Some.at c.loop-at.found c.loop-at.found (at_target _ _ c.in-Some.ensures) (grind (arith, nat_tests)) c.loop-at.invariant

pub loop-at-preserved-then-eq : goal.loop-at-preserved-then-eq
loop-at-preserved-then-eq c =
    let s = c.args.self.now in
    let e = c.if-eq.ensures in
    walk_next _ s.records.now s.len c.index-self-at.result s.linked (omega arith) c.args.pair _ c.in-Some.at c.loop-at.found (Some c.in-Some.at) (at_target _ _ c.in-Some.ensures) (grind (arith, nat_tests)) c.loop-at.invariant

pub returns : goal.returns
returns c =
    let s = c.args.self.now in
    let e = walk_end (length s.heads.now) s.records.now s.len c.args.pair c.loop-at.link c.loop-at.found (at_end _ c.in_default.ensures) c.loop-at.invariant in
    record { answer = e; first = position_first _ _ _ e }
