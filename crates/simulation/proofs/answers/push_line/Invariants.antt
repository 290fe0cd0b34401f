use Rattle.std.proofs.Common.{◌≡◌, [], ◌∷◌, ◌++◌, map, take}
use Rattle.values.specs.Blocks.{row}
use Rattle.simulation.specs.Frames.{digits}
use Rattle.simulation.proofs.answers.push_line.Given as goal

abbrev pub invariant-loop-output : goal.invariant-loop-output
invariant-loop-output l = l.text.items ≡ (l.fn.text.items ++ (l.frame ++ (32 ∷ []))) ++ digits (map (row l.row) (take l.output-index l.outputs))
