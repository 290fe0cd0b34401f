-- The digits of many frames at once: for each input a block of bits, one bit for each frame.
-- Bit i of an input's block is the input's digit in frame i.
use Rattle.std.specs.Prelude.{ℕ, Bool, List, [], map, ◌==◌, slice_index, slice_index_or}
use Rattle.std.specs.List.{range_with_len}
use Rattle.std.specs.Borrow.{Bor}
use Rattle.values.specs.Blocks.{block_of}
use Rattle.values.specs.declared.block.Block.{Block}

-- whether digit j of a frame is `1`
abbrev pub set_at : List ℕ → ℕ → Bool
set_at f j = slice_index f j == 49

-- the frames' digits, as bytes
abbrev pub shown : List (Bor (List ℕ)) → List (List ℕ)
shown ls = map (λ (l : Bor (List ℕ)). l.now) ls

-- digit j of every frame: bit i is that of frame i, both from 0 on
abbrev pub frame_column : List (List ℕ) → ℕ → Block
frame_column fs j = block_of (λ i. set_at (slice_index_or fs i []) j)

-- the first n of these
abbrev pub frame_columns : List (List ℕ) → ℕ → List Block
frame_columns fs n = map (frame_column fs) (range_with_len 0 n)
