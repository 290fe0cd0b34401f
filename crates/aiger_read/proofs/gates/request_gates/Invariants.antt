use Rattle.std.proofs.Common.{◌≡◌, ◌+◌, ◌≤◌, List, length, drop}
use Rattle.graph.specs.States.{state}
use Rattle.aiger_check.specs.Reading.{all}
use Rattle.aiger_check.specs.Circuits.{Item, Begins, total}
use Rattle.aiger_read.specs.Requests.{run}
use Rattle.aiger_read.proofs.gates.request_gates.Given as goal

abbrev pub invariant-loop-j : goal.invariant-loop-j
invariant-loop-j g l =
    (is : List Item)
    × (length is ≡ total l.header)
    × Begins l.header (all l.initial.reader) is
    × (run (g.R.RuleSet.replies l.initial.graph.rules) (l.header.inputs + l.header.outputs) (drop (l.header.inputs + l.header.outputs) is) (state l.initial.graph) l.initial.map 0 ≡ run (g.R.RuleSet.replies l.initial.graph.rules) (l.header.inputs + l.header.outputs + l.j) (drop (l.header.inputs + l.header.outputs + l.j) is) (state l.graph) l.map l.added)
    × (l.reader.bytes ≡ l.initial.reader.bytes)
    × (l.reader.number ≡ l.header.inputs + l.header.outputs + l.j + 1)
    × (drop (l.header.max + 1) l.map ≡ drop (l.header.max + 1) l.initial.map)
    × (l.graph.rules ≡ l.initial.graph.rules)
    × (l.added ≤ l.j)
