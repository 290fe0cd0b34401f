-- The text that answers test frames: a line for each, with its digits, a space and the outputs' digits.
-- Each line is its frame's digits and the outputs' digits.
use Rattle.std.specs.Prelude.{ℕ, ◌+◌, ◌-◌, Bool, List, [], ◌∷◌, ◌++◌, map}
use Rattle.std.specs.List.{flat_map}
use Rattle.values.specs.Bit.{bit_algebra}
use Rattle.values.specs.Blocks.{block_algebra, row}
use Rattle.values.specs.declared.block.Block.{Block}
use Rattle.rules.specs.declared.edge.Edge.{Edge}
use Rattle.rules.specs.Meaning.{means}
use Rattle.graph_model.specs.Graphs.{State, at, meaning}
use Rattle.simulation.specs.Frames.{digits}
use Rattle.simulation.specs.Columns.{set_at}

-- the line of a frame, whose digits are the bytes f, with these output digits
abbrev pub answer_line : List ℕ → List Bool → List ℕ
answer_line f o = f ++ (32 ∷ (digits o ++ (10 ∷ [])))

-- the lines of frames from number i on, where bit i of an output's block is its digit for frame i
abbrev pub row_lines : List Block → ℕ → List (List ℕ) → List ℕ
row_lines bs i [] = []
row_lines bs i (f ∷ fs) = answer_line f (map (row i) bs) ++ row_lines bs (i + 1) fs

-- what each output means, by the nodes' values
abbrev pub output_values : List Block → List Edge → List Block
output_values vs os = map (means block_algebra (at block_algebra vs)) os

-- the frame gives input j, from 1 on, its digit j - 1
abbrev pub given : List ℕ → ℕ → Bool
given f j = set_at f (j - 1)

-- what each output means under the frame
abbrev pub output_bits : State → List Edge → List ℕ → List Bool
output_bits s os f = map (meaning bit_algebra (given f) s) os

-- the lines of all frames
abbrev pub answer_text : State → List Edge → List (List ℕ) → List ℕ
answer_text s os fs = flat_map (λ f. answer_line f (output_bits s os f)) fs
