use Rattle.std.proofs.Common.{vec_items, take}
use Rattle.rules.specs.Edges.{edge}
use Rattle.request_lines.specs.Lines.{edges_text}
use Rattle.answer_lines.proofs.Growing.{pushed, edges_more}
use Rattle.answer_lines.proofs.listed.push_edges.Goals as goal

pub loop-edge-preserved : goal.loop-edge-preserved
loop-edge-preserved c =
    pushed (vec_items c.loop-edge.line) (vec_items c.push.new.self) (vec_items c.push_number.new.line) (vec_items c.args.line.now) (edges_text (take c.loop-edge.edge-index c.args.edges.now)) _ _
    c.in_ok-push.ensures.items c.in_ok-push_number.ensures c.loop-edge.invariant (edges_more c.args.edges.now c.loop-edge.edge-index (edge 0) c.loop-edge-test.true)
