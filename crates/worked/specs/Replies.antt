-- Worked replies: what the four optimisation levels reply to a window, in the graphs of the worked requests.
-- They are numbers that can be checked on paper, and each is proved by computing it.
use Rattle.std.specs.Prelude.{◌≡◌, ℕ, List, [], ◌∷◌, map}
use Rattle.std.specs.List.{AllByRecursion}
use Rattle.rules.specs.declared.window.Window.{Window}
use Rattle.rules.specs.declared.window.Reply.{Reply}
use Rattle.rules.specs.declared.window.Reply.TheVariants.{Edge as an_edge, Pair as a_pair, Store as store}
use Rattle.rules.specs.Edges.{edge}
use Rattle.rulesets.specs.declared.levels.OptLevel.{OptLevel}
use Rattle.rulesets.specs.declared.levels.OptLevel.TheVariants.{One, Two, Three, Four}
use Rattle.graph_model.specs.Requests.{window}
use Rattle.worked.specs.Worked.{the_pair, graph}

-- the replies to a pair at the levels one to four, where some pairs are stored
pub record Row : Type 0 where
  pub stored : List (ℕ × ℕ)
  pub pair : ℕ × ℕ
  pub replies : List Reply

abbrev pub Holds : (OptLevel → Window → Reply) → Row → Type 0
Holds replies r = map (λ level. replies level (window (graph 1000000 r.stored) (the_pair r.pair))) (One ∷ Two ∷ Three ∷ Four ∷ []) ≡ r.replies

abbrev pub answer : ℕ → Reply
answer e = an_edge (edge e)

abbrev pub pair : ℕ → ℕ → Reply
pair x y = a_pair (the_pair (x, y))

-- a rule that comes with a level is none of the levels below, and of all above
abbrev pub from_two : Reply → List Reply
from_two r = store ∷ r ∷ r ∷ r ∷ []

abbrev pub from_three : Reply → List Reply
from_three r = store ∷ store ∷ r ∷ r ∷ []

abbrev pub from_four : Reply → List Reply
from_four r = store ∷ store ∷ store ∷ r ∷ []

abbrev pub row : List (ℕ × ℕ) → ℕ × ℕ → List Reply → Row
row ps p rs = record { stored = ps; pair = p; replies = rs }

abbrev pub rows : List Row
rows =
    -- no rule, then the nine by themselves: contradiction, subsumption, idempotence, resolution, substitution
    row [] (4, 2) (store ∷ store ∷ store ∷ store ∷ [])
    ∷ row ((4, 2) ∷ []) (10, 3) (from_two (answer 0))
    ∷ row ((4, 2) ∷ (6, 5) ∷ []) (12, 10) (from_two (answer 0))
    ∷ row ((4, 2) ∷ []) (11, 3) (from_two (answer 3))
    ∷ row ((4, 2) ∷ (6, 5) ∷ []) (12, 11) (from_two (answer 12))
    ∷ row ((4, 2) ∷ []) (10, 2) (from_two (answer 10))
    ∷ row ((4, 2) ∷ (5, 2) ∷ []) (13, 11) (from_two (answer 3))
    ∷ row ((4, 2) ∷ []) (11, 2) (from_three (pair 5 2))
    ∷ row ((4, 2) ∷ (6, 4) ∷ []) (12, 11) (from_three (pair 3 12))
    ∷ row ((4, 2) ∷ (6, 4) ∷ []) (12, 10) (from_four (pair 12 2))
    -- where two rules fit: contradiction before idempotence, subsumption before substitution, substitution by one node before that by two
    ∷ row ((4, 2) ∷ (5, 2) ∷ []) (12, 10) (from_two (answer 0))
    ∷ row ((4, 2) ∷ (5, 2) ∷ []) (12, 11) (from_two (answer 12))
    ∷ row ((4, 2) ∷ (10, 4) ∷ []) (13, 10) (from_three (pair 5 10))
    ∷ []

abbrev pub WorkedReplies : (OptLevel → Window → Reply) → Type 0
WorkedReplies replies = AllByRecursion (Holds replies) rows
