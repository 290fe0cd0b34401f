use Rattle.std.proofs.Common.{◌≡◌, ℕ, ◌+◌, ◌-◌, ◌*◌, ◌<◌, true, ◌++◌, length, drop, None}
use Rattle.graph_model.specs.Graphs.{nodes}
use Rattle.graph.specs.States.{state}
use Rattle.questions.specs.Comparison.{agree, block_values}
use Rattle.questions.proofs.compare.scan.Given as goal

abbrev pub invariant-bits : goal.invariant-bits
invariant-bits g l =
    let s = state l.graph in
    (l.found ≡ None) × ((k : ℕ) → k < 64 * l.b + l.i → k < l.total → agree s l.x l.y k ≡ true)

abbrev pub invariant-search : goal.invariant-search
invariant-search g l =
    let s = state l.graph in
    (l.found ≡ None) × ((k : ℕ) → k < 64 * l.b → k < l.total → agree s l.x l.y k ≡ true)
    × (drop (nodes s) l.blocks ≡ drop (nodes s) l.initial.blocks)
    × (0 < l.b → l.blocks ≡ block_values s (l.b - 1) ++ drop (nodes s) l.initial.blocks)
    × (length l.blocks ≡ length l.initial.blocks)
