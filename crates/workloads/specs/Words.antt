-- Words of random bits, and the XOR of words.
-- The words are the states of the stream, one after another.
use Rattle.std.specs.Prelude.{ℕ, zero, suc, List, [], ◌∷◌, ◌++◌, map, bit_xor}
use Rattle.values.specs.declared.block.Block.{Block}
use Rattle.workloads.specs.Randoms.{step}

abbrev pub words_of : List Block → List ℕ
words_of bs = map (λ (b : Block). b.bits) bs

-- the state after so many steps
unfoldable pub stepped : ℕ → ℕ → ℕ
stepped zero x = x
stepped (suc k) x = step (stepped k x)

-- the states after one step, two steps and so on, so many
unfoldable pub words : ℕ → ℕ → List ℕ
words zero x = []
words (suc k) x = words k x ++ (stepped (suc k) x ∷ [])

-- the XOR of a word with all of a list
unfoldable pub xor_from : ℕ → List ℕ → ℕ
xor_from a [] = a
xor_from a (w ∷ ws) = xor_from (bit_xor a w) ws
