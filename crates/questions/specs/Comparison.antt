-- What a comparison of two edges answers, and what it leaves in the list of blocks.
-- `Compares` says what the answer has to be without a search, and `compare` promises both.
use Rattle.std.specs.Prelude.{◌≡◌, ℕ, zero, suc, ◌+◌, ◌-◌, ◌/◌, ◌^◌, ◌<◌, Bool, ◌||◌, List, ◌++◌, drop, Ok, Err, Result, ◌≢◌, nat_le, nat_lt, None, Option, Some, if◌then◌else◌}
use Rattle.std.specs.Bool.{beq}
use Rattle.values.specs.declared.block.Block.{Block}
use Rattle.values.specs.Blocks.{block_algebra}
use Rattle.values.specs.Columns.{block_column}
use Rattle.rules.specs.declared.edge.Edge.{Edge}
use Rattle.rules.specs.Edges.{node}
use Rattle.graph_model.specs.declared.refusal.Refusal.{Refusal}
use Rattle.graph_model.specs.declared.refusal.Refusal.TheVariants.{NoNode, TooManyInputs, Values}
use Rattle.graph_model.specs.Graphs.{State, nodes, node_values}
use Rattle.questions.specs.Assignments.{edge_bit}

-- the edges mean the same under every assignment, or k is the smallest one under which they do not
abbrev pub Compares : State → Edge → Edge → Option ℕ → Type 0
Compares s x y None = (k : ℕ) → k < 2 ^ s.inputs → edge_bit s k x ≡ edge_bit s k y
Compares s x y (Some k) =
    (k < 2 ^ s.inputs) × (edge_bit s k x ≢ edge_bit s k y) × ((j : ℕ) → j < k → edge_bit s j x ≡ edge_bit s j y)

-- whether the edges mean the same under assignment k
abbrev pub agree : State → Edge → Edge → ℕ → Bool
agree s x y k = beq (edge_bit s k x) (edge_bit s k y)

-- the first of the n numbers from k on at which a test fails
unfoldable pub first_failing : (ℕ → Bool) → ℕ → ℕ → Option ℕ
first_failing p k zero = None
first_failing p k (suc n) = if p k then first_failing p (k + 1) n else Some k

-- the assignments are tried in order
abbrev pub comparison : State → Edge → Edge → Option ℕ
comparison s x y = first_failing (agree s x y) 0 (2 ^ s.inputs)

-- the first refusal that applies: no such node, more than 16 inputs, or too few places; else the comparison
abbrev pub compared : State → Edge → Edge → ℕ → Result (Option ℕ) Refusal
compared s x y room =
    if nat_le (nodes s) (node x) || nat_le (nodes s) (node y) then Err NoNode
    else (if nat_lt 16 s.inputs then Err TooManyInputs
    else (if nat_le (nodes s) room then Ok (comparison s x y) else Err Values))

-- the values of the nodes under the 64 assignments from 64 * b on
abbrev pub block_values : State → ℕ → List Block
block_values s b = node_values block_algebra (λ j. block_column b (j - 1)) s

-- the last block that a comparison looks at
abbrev pub last_block : State → Option ℕ → ℕ
last_block s None = (2 ^ s.inputs - 1) / 64
last_block s (Some k) = k / 64

-- the list of blocks afterwards: the values over the last block looked at, and the places beyond as they were; or as it was
abbrev pub blocks_after : Result (Option ℕ) Refusal → State → List Block → List Block
blocks_after (Ok c) s old = block_values s (last_block s c) ++ drop (nodes s) old
blocks_after (Err _) s old = old
