-- What a sink holds after bytes were put into it.
-- A sink's place goes up by the bytes put, whether they fit or not.
use Rattle.std.specs.Prelude.{◌≡◌, ℕ, ◌+◌, List, length}
use Rattle.aiger_write.specs.declared.sink.Sink.{Sink}
use Rattle.aiger_write.specs.Buffers.{put}

-- t is s after these bytes, over the same buffer
pub record HasTaken (bytes : List ℕ) (s t : Sink) : Type 0 where
  pub at : t.at ≡ s.at + length bytes
  pub text : t.text.now ≡ put s.text.now s.at bytes
  pub buffer : t.text.ghost_name ≡ s.text.ghost_name
