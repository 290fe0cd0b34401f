use Rattle.std.proofs.Common.{◌<◌, length, arith}
use Rattle.std.proofs.lemmas.List.{length-set}
use Rattle.chained_store.proofs.Chain.{headed_past, linked_past, headed_append, linked_append}
use Rattle.chained_store.proofs.chained.calls.ChainedStoreNodeStore.append.Goals as goal

-- after the write of the record, which lies past the last one
pub invariant_of-self : goal.invariant_of-self
invariant_of-self c =
    let s = c.args.self.now in
    let rs = s.records.now in
    let hs = s.heads.now in
    record { held = s.held; room = simp length-set s.room; few = s.few; some = s.some; many = s.many; headed = headed_past rs hs s.len _ s.headed; linked = linked_past (length hs) rs s.len _ s.linked }

-- after the writes of the head and the length
pub invariant_of-self-2 : goal.invariant_of-self-2
invariant_of-self-2 c =
    let s = c.args.self.now in
    let rs = s.records.now in
    let hs = s.heads.now in
    let h = c.slot_of-slot.result in
    let p = c.args.pair in
    let room : s.len < length rs = omega arith in record { held = omega arith; room = simp length-set s.room; few = s.few; some = (λ l. simp length-set (s.some l)); many = (λ l. simp length-set (s.many l)); headed = headed_append rs hs s.len _ h s.headed room c.slot_of-slot.ensures.0; linked = linked_append rs hs s.len p h s.headed s.linked room c.slot_of-slot.ensures.0 c.slot_of-slot.ensures.1 }
