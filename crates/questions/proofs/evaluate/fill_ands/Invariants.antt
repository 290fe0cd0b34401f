use Rattle.std.proofs.Common.{◌≡◌, ◌+◌, length, take, drop}
use Rattle.std.specs.Iterator.Adapters.{enumerate_source, enumerate_count}
use Rattle.stores.specs.Left.{left}
use Rattle.graph_model.specs.Graphs.{nodes, grown}
use Rattle.graph.specs.States.{state}
use Rattle.questions.proofs.evaluate.fill_ands.Given as goal

-- what is left of the pairs decides the whole, the places beyond are as they were, and none is added or lost
abbrev pub invariant-loop-i : goal.invariant-loop-i
invariant-loop-i g l =
    let k = g.V.Value.algebra in
    let s = state l.graph in
    let ps = left g.S.NodeStore.model (enumerate_source l.i-iterator) in
    let n = s.inputs + 1 + enumerate_count l.i-iterator in
    (goal.iterator-loop-i g).can_next l.i-iterator
    × (goal.iterator-loop-i g).is_finite l.i-iterator
    × (grown k (take n l.values) ps ≡ grown k (take (s.inputs + 1) l.initial.values) s.pairs)
    × (n + length ps ≡ nodes s)
    × (drop (nodes s) l.values ≡ drop (nodes s) l.initial.values)
    × (length l.values ≡ length l.initial.values)
