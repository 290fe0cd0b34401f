use Rattle.std.proofs.Common.{arith}
use Rattle.simulation.proofs.Groups.{line_more}
use Rattle.simulation.proofs.answers.push_lines.Goals as goal

pub loop-i-preserved : goal.loop-i-preserved
loop-i-preserved c = line_more c.args.outputs.now c.args.frames.now c.loop-i.i _ _ c.loop-i.text.items c.push_line.new.text.items _ (omega arith) (omega arith) c.in_ok-push_line.ensures c.loop-i.invariant
