-- Assignments of bits to the inputs, by number, and what edges mean under them.
-- Bit j - 1 of the number is input j, as the answers of a comparison are told.
use Rattle.std.specs.Prelude.{ℕ, ◌-◌, Bool}
use Rattle.values.specs.Bit.{bit_algebra}
use Rattle.values.specs.Digits.{digit}
use Rattle.rules.specs.declared.edge.Edge.{Edge}
use Rattle.graph_model.specs.Graphs.{State, meaning}

-- assignment k gives input j, from 1 on, digit j - 1 of k
abbrev pub assignment : ℕ → ℕ → Bool
assignment k j = digit k (j - 1)

-- what an edge means under assignment k
abbrev pub edge_bit : State → ℕ → Edge → Bool
edge_bit s k e = meaning bit_algebra (assignment k) s e
