-- A draft with one line more.
use Rattle.std.proofs.Common.{◌≡◌, ℕ, suc, ◌+◌, ◌*◌, List, [], ◌∷◌, ◌++◌, codes, decimal, sym, ap, ◌∙◌, ap₂, arith}
use Rattle.std.proofs.lemmas.List.{map_push}
use Rattle.values.specs.declared.block.Block.{Block}
use Rattle.workloads.specs.Randoms.{step, below, after}
use Rattle.workloads.specs.Words.{words_of, words, stepped}
use Rattle.workloads.specs.Circuits.{Draft, with_inputs, output, gate, with_outputs, with_gates}

-- the line of an input
pub more_inputs : (k : ℕ) (t u v : List ℕ) → u ≡ with_inputs k t → v ≡ u ++ (decimal (2 * (k + 1)) ++ codes "\n") → v ≡ with_inputs (k + 1) t
unfolding with_inputs
more_inputs k t u v i e = let n : k + 1 ≡ suc k = omega arith in e ∙ ap (λ z. z ++ (decimal (2 * (k + 1)) ++ codes "\n")) i ∙ ap (λ z. with_inputs z t) (sym n)

abbrev drafted : List ℕ → ℕ → Draft
drafted t x = record { text = t; state = x }

-- the line of an output
pub more_outputs : (n k : ℕ) (d : Draft) (t u : List ℕ) (x y p : ℕ) → drafted t x ≡ with_outputs n k d → u ≡ t ++ (decimal p ++ codes "\n") → p ≡ below x n → y ≡ after x n → drafted u y ≡ with_outputs n (k + 1) d
unfolding with_outputs output
more_outputs n k d t u x y p i e a b =
    let one : k + 1 ≡ suc k = omega arith in
    ap₂ drafted (e ∙ ap (λ z. t ++ (decimal z ++ codes "\n")) a) b
    ∙ ap (output n) i
    ∙ ap (λ z. with_outputs n z d) (sym one)

-- the line of a gate
pub more_gates : (k l : ℕ) (d : Draft) (t u : List ℕ) (x y z p q : ℕ) → drafted t x ≡ with_gates k d → l ≡ 2 * (100 + 1 + k) → u ≡ t ++ (decimal l ++ (codes " " ++ (decimal p ++ (codes " " ++ (decimal q ++ codes "\n"))))) → p ≡ below x l → y ≡ after x l → q ≡ below y l → z ≡ after y l
    → drafted u z ≡ with_gates (k + 1) d
unfolding with_gates gate
more_gates k l d t u x y z p q i m e a b f g =
    let one : k + 1 ≡ suc k = omega arith in
    let q' : q ≡ below (after x l) l = f ∙ ap (λ w. below w l) b in
    ap₂ drafted (e ∙ ap₂ (λ v w. t ++ (decimal l ++ (codes " " ++ (decimal v ++ (codes " " ++ (decimal w ++ codes "\n")))))) a q') (g ∙ ap (λ w. after w l) b)
    ∙ ap (gate l) i
    ∙ ap (λ w. gate w (with_gates k d)) m
    ∙ ap (λ w. with_gates w d) (sym one)

-- one word more
pub more_words : (k : ℕ) (bs cs : List Block) (b : Block) (x y w : ℕ) → words_of bs ≡ words k x → y ≡ stepped k x → w ≡ step y → b.bits ≡ w → cs ≡ bs ++ (b ∷ []) → (words_of cs ≡ words (k + 1) x) × (w ≡ stepped (k + 1) x)
unfolding words stepped
more_words k bs cs b x y w i j h f e =
    let one : k + 1 ≡ suc k = omega arith in
    let at : w ≡ stepped (suc k) x = h ∙ ap step j in
    (ap words_of e ∙ map_push (λ (z : Block). z.bits) bs b ∙ ap₂ (λ p q. p ++ (q ∷ [])) i (f ∙ at) ∙ ap (λ n. words n x) (sym one), at ∙ ap (λ n. stepped n x) (sym one))
