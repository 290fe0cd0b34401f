use Rattle.std.proofs.Common.{length, subst, arith}
use Rattle.std.proofs.lemmas.List.{length-set}
use Rattle.chained_store.specs.Chains.{Headed, Linked}
use Rattle.chained_store.proofs.Chain.{headed_truncate, linked_truncate}
use Rattle.chained_store.proofs.chained.calls.ChainedStoreNodeStore.truncate.Goals as goal

pub invariant_of-self : goal.invariant_of-self
invariant_of-self c =
    let s = c.loop-at.self in
    let rs = s.records.now in
    let hs = s.heads.now in
    let h = c.slot_of-slot.result in
    let d = c.index-self-at.result in
    let headed = subst (λ k. Headed rs hs k) c.loop-at.invariant.0 s.headed in
    let linked = subst (λ k. Linked (length hs) rs k) c.loop-at.invariant.0 s.linked in record { held = omega arith; room = s.room; few = s.few; some = (λ l. simp length-set (s.some l)); many = (λ l. simp length-set (s.many l)); headed = headed_truncate rs hs c.loop-at.at h d (omega arith) (omega arith) headed linked c.slot_of-slot.ensures.0; linked = linked_truncate rs hs c.loop-at.at h _ linked }
