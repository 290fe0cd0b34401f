use Rattle.std.proofs.Common.{◌+◌, [], ◌∷◌, get_or, drop, arith}
use Rattle.std.proofs.lemmas.List.{drop_more}
use Rattle.aiger_write.proofs.Puts.{Due-all, Due-more}
use Rattle.aiger_write.proofs.sink.Sink.put_bytes.Goals as goal

pub loop-byte-init : goal.loop-byte-init
loop-byte-init c = Due-all c.args.bytes.now c.args.self.now

pub loop-byte-preserved : goal.loop-byte-preserved
loop-byte-preserved c =
    let bs = c.args.bytes.now in
    let i = c.loop-byte.byte-index in
    Due-more bs (drop i bs) (get_or bs i 0 ∷ []) (drop (i + 1) bs) c.args.self.now c.loop-byte.self c.put_byte.new.self c.loop-byte.invariant (drop_more bs i 0 (omega arith)) c.put_byte.ensures
