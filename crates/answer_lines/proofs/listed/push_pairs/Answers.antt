use Rattle.std.proofs.Common.{vec_items, take}
use Rattle.answer_lines.specs.Answers.{spaced_pairs}
use Rattle.answer_lines.proofs.Growing.{pushed, pairs_more}
use Rattle.answer_lines.proofs.listed.push_pairs.Goals as goal

pub loop-pair-preserved : goal.loop-pair-preserved
loop-pair-preserved c =
    pushed (vec_items c.loop-pair.line) (vec_items c.push.new.self) (vec_items c.push_pair.new.line) (vec_items c.args.line.now) (spaced_pairs (take c.loop-pair.pair-index c.args.pairs.now)) _ _
    c.in_ok-push.ensures.items c.in_ok-push_pair.ensures c.loop-pair.invariant (pairs_more c.args.pairs.now c.loop-pair.pair-index c.pair-item.result c.loop-pair-test.true c.pair-item.is)
