use Rattle.std.proofs.Common.{drop}
use Rattle.aiger_write.proofs.Puts.{Due}
use Rattle.aiger_write.proofs.sink.Sink.put_bytes.Given as goal

abbrev pub invariant-loop-byte : goal.invariant-loop-byte
invariant-loop-byte l = Due l.bytes (drop l.byte-index l.bytes) l.initial.self l.self
