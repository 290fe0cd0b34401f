use Rattle.std.proofs.Common.{get_or, set, ap, ◌∙◌, arith}
use Rattle.rules.specs.declared.edge.Edge.{Edge}
use Rattle.rules.specs.Edges.{edge}
use Rattle.aiger_read.specs.Requests.{through}
use Rattle.aiger_read.proofs.Fill.{fill_at, fill_more}
use Rattle.aiger_read.proofs.read.fill_outputs.Goals as goal

pub loop-output-preserved : goal.loop-output-preserved
loop-output-preserved c =
    let f : Edge → Edge = λ e. through c.args.map.now e.0 in
    let i = c.loop-output.output-index in
    let e = ap (λ z. get_or z i (edge 0)) c.loop-output.invariant ∙ fill_at f c.args.outputs.now i (omega arith) in
    let v = c.edge_of.ensures ∙ ap f e in
    (λ k. set (c.loop-output.invariant k) i (v k)) ∙ fill_more f c.args.outputs.now i (omega arith)
