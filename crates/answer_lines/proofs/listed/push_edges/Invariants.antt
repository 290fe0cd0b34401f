use Rattle.std.proofs.Common.{◌≡◌, ◌++◌, take, vec_items}
use Rattle.request_lines.specs.Lines.{edges_text}
use Rattle.answer_lines.proofs.listed.push_edges.Given as goal

abbrev pub invariant-loop-edge : goal.invariant-loop-edge
invariant-loop-edge l = vec_items l.line ≡ vec_items l.initial.line ++ edges_text (take l.edge-index l.edges)
