use Rattle.std.proofs.Common.{◌≡◌, ◌++◌, vec_len}
use Rattle.std.specs.Slice.Iter.{chunks_rest, chunks_size}
use Rattle.graph_model.specs.Graphs.{nodes}
use Rattle.graph.specs.States.{state}
use Rattle.simulation.specs.Columns.{shown}
use Rattle.simulation.specs.Answers.{answer_text}
use Rattle.simulation.proofs.answers.answer_frames.Given as goal

-- the frames that are left decide the whole
abbrev pub invariant-loop-group : goal.invariant-loop-group
invariant-loop-group g l =
    let s = state l.graph in
    (chunks_size l.group-iterator ≡ 64)
    × (l.text.items ++ answer_text s l.outputs (shown (chunks_rest l.group-iterator)) ≡ answer_text s l.outputs (shown l.fn.frames))
    × (vec_len l.columns ≡ s.inputs)
    × (vec_len l.values ≡ nodes s)
