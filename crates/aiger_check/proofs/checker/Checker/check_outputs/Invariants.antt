use Rattle.std.proofs.Common.{ℕ, ◌/◌, ◌<◌, get_or}
use Rattle.rules.specs.Edges.{false_edge}
use Rattle.aiger_check.specs.Checks.{Noted}
use Rattle.aiger_check.proofs.checker.Checker.check_outputs.Given as goal

abbrev pub invariant-loop-j : goal.invariant-loop-j
invariant-loop-j l = (i : ℕ) → i < l.j → Noted l.self.map.now ((get_or l.self.outputs.now i false_edge).0 / 2)
