-- The text of a random circuit.
-- Each line is written out, and takes its numbers from the stream as they come.
use Rattle.std.specs.Prelude.{ℕ, zero, suc, ◌+◌, ◌*◌, min, List, ◌++◌, codes, decimal, String, string_bytes}
use Rattle.std.specs.declared.alloc.Global.{Global}
use Rattle.workloads.specs.declared.random.Random.{Random}
use Rattle.workloads.specs.Randoms.{seed, below, after}

-- a text, and the state of the random numbers that go into it
pub record Draft : Type 0 where
  pub text : List ℕ
  pub state : ℕ

abbrev pub draft : String Global → Random → Draft
draft s r = record { text = string_bytes s; state = r.state }

-- a text with the lines of so many inputs after it, whose literals are 2, 4 and so on
unfoldable pub with_inputs : ℕ → List ℕ → List ℕ
with_inputs zero t = t
with_inputs (suc k) t = with_inputs k t ++ (decimal (2 * (k + 1)) ++ codes "\n")

-- a draft with the line of an output after it, a literal below n
unfoldable pub output : ℕ → Draft → Draft
output n d = record { text = d.text ++ (decimal (below d.state n) ++ codes "\n"); state = after d.state n }

-- a draft with the line of a gate of this literal after it, its operands below the literal
unfoldable pub gate : ℕ → Draft → Draft
gate l d =
    let x = after d.state l in
    record { text = d.text ++ (decimal l ++ (codes " " ++ (decimal (below d.state l) ++ (codes " " ++ (decimal (below x l) ++ codes "\n"))))); state = after x l }

-- and with so many outputs, or gates
unfoldable pub with_outputs : ℕ → ℕ → Draft → Draft
with_outputs n zero d = d
with_outputs n (suc k) d = output n (with_outputs n k d)

unfoldable pub with_gates : ℕ → Draft → Draft
with_gates zero d = d
with_gates (suc k) d = gate (2 * (100 + 1 + k)) (with_gates k d)

-- with g gates, the header before the inputs, outputs and gates
abbrev pub text_of_gates : ℕ → List ℕ
text_of_gates g =
    let header = codes "aag " ++ (decimal (100 + g) ++ (codes " " ++ (decimal 100 ++ (codes " 0 " ++ (decimal 100 ++ (codes " " ++ (decimal g ++ codes "\n"))))))) in
    (with_gates g (with_outputs (2 * (100 + g) + 2) 100 (record { text = with_inputs 100 header; state = seed }))).text

-- 100,000 gates at most
abbrev pub circuit_text : ℕ → List ℕ
circuit_text gates = text_of_gates (min gates 100000)
