-- The worked examples, by computation.
use Rattle.std.proofs.Common.{◌≡◌, ℕ, true, List, [], ◌∷◌, Ok, Err, refl, ap, ◌∙◌}
use Rattle.rules.specs.declared.pair.Pair.{Pair}
use Rattle.values.specs.Bit.{bit_algebra}
use Rattle.values.specs.Digits.{pack}
use Rattle.rules.specs.Edges.{edge}
use Rattle.rules.specs.Pairs.{pair_of}
use Rattle.rules.specs.RuleLists.{by_rules}
use Rattle.rules.proofs.Edged.{pair_of_sym}
use Rattle.rulesets.specs.Levels.{level_rules}
use Rattle.rules.specs.Meaning.{means}
use Rattle.graph_model.specs.declared.refusal.Refusal.TheVariants.{Full}
use Rattle.graph_model.specs.Graphs.{State, at, grown}
use Rattle.graph_model.specs.Requests.{trivial, stored, window, settle, and_of}
use Rattle.graph_model.specs.Operations.{nand_of, equiv_of, apply_of}
use Rattle.worked.specs.Worked.{Answer, anded, applied, the_pair, Worked}
use Rattle.worked.specs.Replies.{WorkedReplies}
use Rattle.worked.specs.Values.{WorkedValues}

-- a graph with the pairs as they are stored
holding : ℕ → List Pair → State
holding limit ps = record { inputs = 4; pairs = ps; limit = limit; max_edge = 4294967295 }

-- a pair made of edges in the other order is the same pair
exchanged : {A : Type 0} (f : Pair → A) (x y : ℕ) → f (pair_of (edge x) (edge y)) ≡ f (pair_of (edge y) (edge x))
exchanged f x y = ap f (pair_of_sym (edge x) (edge y))

-- what an AND that stores a pair gives
adding : ℕ → List Pair → Answer × State
adding e ps = (anded (Ok (edge e, true)), holding 1000000 ps)

-- what EQUIV and XOR give
three_added : ℕ → Pair → Pair → Pair → Answer × State
three_added e p q r = (applied (Ok (edge e, 3)), holding 1000000 (p ∷ q ∷ r ∷ []))

stopped : Pair → Answer × State
stopped p = (applied (Err Full), holding 1 (p ∷ []))

pub worked : Worked
unfolding trivial stored window settle and_of nand_of equiv_of apply_of holding adding three_added stopped
worked =
    let first = exchanged (λ p. adding 10 (p ∷ [])) 2 4 in
    let both = exchanged (λ p. adding 14 (the_pair (4, 2) ∷ the_pair (6, 4) ∷ p ∷ [])) 10 12 in
    let one = exchanged stopped 2 5 in
    (refl, (refl, (refl, (refl, (refl, (refl, (refl, (refl, (first, (refl, (refl, (refl, (refl, (refl, (refl, (refl, (refl, (refl, (refl, (both, (refl, (refl, (refl, (refl, (three 14, (three 15, (one, (refl, (refl, tt)))))))))))))))))))))))))))))
  where
    -- three pairs, each made in the other order
    three : (e : ℕ) → three_added e (pair_of (edge 2) (edge 5)) (pair_of (edge 3) (edge 4)) (pair_of (edge 11) (edge 13)) ≡ three_added e (the_pair (5, 2)) (the_pair (4, 3)) (the_pair (13, 11))
    three e =
        exchanged (λ p. three_added e p (pair_of (edge 3) (edge 4)) (pair_of (edge 11) (edge 13))) 2 5
        ∙ exchanged (λ q. three_added e (the_pair (5, 2)) q (pair_of (edge 11) (edge 13))) 3 4
        ∙ exchanged (three_added e (the_pair (5, 2)) (the_pair (4, 3))) 11 13

-- the worked replies and values, likewise
pub replies : WorkedReplies (λ level. by_rules (level_rules level))
unfolding stored window
replies = (refl, (refl, (refl, (refl, (refl, (refl, (refl, (refl, (refl, (refl, (refl, (refl, (refl, tt)))))))))))))

pub values : WorkedValues bit_algebra
unfolding pack at grown means
values = record { digits = refl; column = refl; later_column = refl; table = refl; bits = refl; free = refl; full = refl; too_large = refl; inputs = refl }
