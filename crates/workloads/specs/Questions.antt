-- What the two edges of a question mean, and what the question is called.
-- An edge is known by its value under every assignment to the inputs; the names are written out.
use Rattle.std.specs.Prelude.{◌≡◌, ℕ, zero, suc, Bool, true, false, ◌&&◌, List, codes}
use Rattle.values.specs.Algebra.{xor}
use Rattle.values.specs.Bit.{bit_algebra}
use Rattle.rules.specs.declared.edge.Edge.{Edge}
use Rattle.graph_model.specs.Graphs.{State, Inside, meaning}
use Rattle.workloads.specs.declared.question.Question.{Question}
use Rattle.workloads.specs.declared.question.Question.TheVariants.{Parities, Conjunction}

abbrev pub compared : Question → List ℕ
compared Parities = codes "the XOR of 16 inputs from the left with that from the right"
compared Conjunction = codes "the AND of 16 inputs with false"

-- the XOR of the first k inputs
unfoldable pub parity : (ℕ → Bool) → ℕ → Bool
parity ρ zero = false
parity ρ (suc k) = xor bit_algebra (parity ρ k) (ρ (suc k))

-- the AND of the first k inputs
unfoldable pub all_true : (ℕ → Bool) → ℕ → Bool
all_true ρ zero = true
all_true ρ (suc k) = all_true ρ k && ρ (suc k)

-- an edge of the graph has this value under every assignment
abbrev pub Means : State → Edge → ((ℕ → Bool) → Bool) → Type 0
Means s e f = Inside s e × ((ρ : ℕ → Bool) → meaning bit_algebra ρ s e ≡ f ρ)

-- the two edges in a graph of sixteen inputs
abbrev pub Asks : Question → State → Edge → Edge → Type 0
Asks Parities s x y = (s.inputs ≡ 16) × Means s x (λ ρ. parity ρ 16) × Means s y (λ ρ. parity ρ 16)
Asks Conjunction s x y = (s.inputs ≡ 16) × Means s x (λ ρ. all_true ρ 16) × Means s y (λ ρ. false)
