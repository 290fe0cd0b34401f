use Rattle.std.proofs.Common.{rules, ◌<◌, length}
use Rattle.simulation.proofs.FrameLines.{one_more}
use Rattle.simulation.proofs.frames.read_frames.Goals as goal

pub loop-rest-preserved : goal.loop-rest-preserved
loop-rest-preserved c =
    let some : 0 < length c.loop-rest.rest.now = search rules in
    let f = c.in-Some.ensures in
    one_more c.args.inputs c.args.bytes.now c.loop-rest.frames.items c.push.new.self.items c.in-Some.frame c.loop-rest.rest.now c.in-Some.after.now f.0 c.in_ok-push.ensures.items f.1 some f.2 c.loop-rest.invariant
