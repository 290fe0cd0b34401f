use Rattle.std.proofs.Common.{length}
use Rattle.simulation.proofs.FrameLines.{SoFar}
use Rattle.simulation.proofs.frames.read_frames.Given as goal

abbrev pub invariant-loop-rest : goal.invariant-loop-rest
invariant-loop-rest l = SoFar l.inputs l.fn.bytes l.frames.items l.rest

abbrev pub decreases-loop-rest : goal.decreases-loop-rest
decreases-loop-rest l = length l.rest
