use Rattle.std.proofs.Common.{◌≡◌, ◌+◌, ◌*◌, ◌^◌, ◌<◌, ◌≤◌, length}
use Rattle.std.specs.Iterator.Adapters.{enumerate_source, enumerate_count}
use Rattle.stores.specs.Left.{left}
use Rattle.graph.specs.States.{state}
use Rattle.aiger_write.proofs.Puts.{Due}
use Rattle.aiger_write.proofs.Items.{inputs_left, outputs_left, gates_left}
use Rattle.aiger_write.proofs.write.put_circuit.Given as goal

abbrev pub invariant-loop-j : goal.invariant-loop-j
invariant-loop-j g l =
    let due = inputs_left (state l.graph) l.outputs in
    (Due (due 0) (due l.j) l.initial.sink l.sink) × (l.sink.at ≤ l.initial.sink.at + 11 * l.j) × (l.initial.sink.at + length (due 0) < 2 ^ 64)

abbrev pub invariant-loop-edge : goal.invariant-loop-edge
invariant-loop-edge g l =
    let due = outputs_left (state l.graph) l.outputs in
    (Due (due 0) (due l.edge-index) l.initial.sink l.sink) × (l.sink.at ≤ l.initial.sink.at + 11 * l.edge-index) × (l.initial.sink.at + length (due 0) < 2 ^ 64)

abbrev pub invariant-loop-i : goal.invariant-loop-i
invariant-loop-i g l =
    let s = state l.graph in
    let ps = left g.S.NodeStore.model (enumerate_source l.i-iterator) in
    let i = enumerate_count l.i-iterator in
    let whole = gates_left (s.inputs + 1) s.pairs in
    (goal.iterator-loop-i g).can_next l.i-iterator
    × (goal.iterator-loop-i g).is_finite l.i-iterator
    × (Due whole (gates_left (s.inputs + 1 + i) ps) l.initial.sink l.sink)
    × (l.sink.at ≤ l.initial.sink.at + 33 * i)
    × (l.initial.sink.at + length whole < 2 ^ 64)
    × (i + length ps ≡ length s.pairs)
