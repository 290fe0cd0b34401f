-- Worked requests on graphs of four inputs, whose edges are 2, 4, 6 and 8; the first AND node has the edge 10.
-- They are numbers that can be checked on paper, and each is proved by computing it.
use Rattle.std.specs.Prelude.{◌≡◌, ℕ, Bool, true, false, List, [], ◌∷◌, ◌++◌, map, Ok, Err, Result}
use Rattle.std.specs.List.{AllByRecursion}
use Rattle.rules.specs.declared.edge.Edge.{Edge}
use Rattle.rules.specs.declared.pair.Pair.{Pair}
use Rattle.rules.specs.declared.window.Window.{Window}
use Rattle.rules.specs.declared.window.Reply.{Reply}
use Rattle.rules.specs.Edges.{edge}
use Rattle.rules.specs.Pairs.{pair_of}
use Rattle.rules.specs.RuleLists.{by_rules}
use Rattle.rulesets.specs.declared.levels.OptLevel.{OptLevel}
use Rattle.rulesets.specs.declared.levels.OptLevel.TheVariants.{One, Two, Three, Four}
use Rattle.rulesets.specs.Levels.{level_rules}
use Rattle.graph_model.specs.declared.operation.Operation.{Operation}
use Rattle.graph_model.specs.declared.operation.Operation.TheVariants.{Or, Implies, Equiv, Xor}
use Rattle.graph_model.specs.declared.refusal.Refusal.{Refusal}
use Rattle.graph_model.specs.declared.refusal.Refusal.TheVariants.{Full}
use Rattle.graph_model.specs.Graphs.{State}
use Rattle.graph_model.specs.Requests.{and_of}
use Rattle.graph_model.specs.Operations.{apply_of}

-- a request for an AND, or for another operation, of two edges by their numbers
pub data Request : Type 0 where
  and : ℕ → ℕ → Request
  apply : Operation → ℕ → ℕ → Request

-- an AND tells whether a node was added, an operation how many were
pub data Answer : Type 0 where
  anded : Result (Edge × Bool) Refusal → Answer
  applied : Result (Edge × ℕ) Refusal → Answer

-- pairs are given by the numbers of their edges
pub record Example : Type 0 where
  pub level : OptLevel
  pub limit : ℕ
  pub before : List (ℕ × ℕ)
  pub request : Request
  pub answer : Answer
  pub after : List (ℕ × ℕ)

abbrev pub the_pair : ℕ × ℕ → Pair
the_pair p = pair_of (edge p.0) (edge p.1)

-- a graph of four inputs
abbrev pub graph : ℕ → List (ℕ × ℕ) → State
graph limit ps = record { inputs = 4; pairs = map the_pair ps; limit = limit; max_edge = 4294967295 }

-- what a request answers, and the graph after it
abbrev pub gives : (Window → Reply) → State → Request → Answer × State
gives b s (and x y) = (anded (and_of b s (edge x) (edge y)).answer, (and_of b s (edge x) (edge y)).after)
gives b s (apply op x y) = (applied (apply_of b s op (edge x) (edge y)).answer, (apply_of b s op (edge x) (edge y)).after)

abbrev pub Holds : Example → Type 0
Holds e = gives (by_rules (level_rules e.level)) (graph e.limit e.before) e.request ≡ (e.answer, graph e.limit e.after)

-- an AND that is answered, and stores nothing
abbrev pub finds : OptLevel → List (ℕ × ℕ) → ℕ → ℕ → ℕ → Example
finds level ps x y e = record { level = level; limit = 1000000; before = ps; request = and x y; answer = anded (Ok (edge e, false)); after = ps }

-- an AND that stores a pair, and is its node's edge
abbrev pub stores : OptLevel → List (ℕ × ℕ) → ℕ → ℕ → ℕ × ℕ → ℕ → Example
stores level ps x y p e = record { level = level; limit = 1000000; before = ps; request = and x y; answer = anded (Ok (edge e, true)); after = ps ++ (p ∷ []) }

-- another operation at level three, where nothing is stored before
abbrev pub applies : ℕ → Operation → ℕ → ℕ → Result (Edge × ℕ) Refusal → List (ℕ × ℕ) → Example
applies limit op x y a ps = record { level = Three; limit = limit; before = []; request = apply op x y; answer = applied a; after = ps }

abbrev pub examples : List Example
examples =
    -- the trivial cases, at every level
    finds One [] 2 1 2
    ∷ finds One [] 2 3 0
    ∷ finds Two [] 2 1 2
    ∷ finds Two [] 2 3 0
    ∷ finds Three [] 2 1 2
    ∷ finds Three [] 2 3 0
    ∷ finds Four [] 2 1 2
    ∷ finds Four [] 2 3 0
    -- a pair is stored once, whatever the order
    ∷ stores Two [] 2 4 (4, 2) 10
    ∷ finds Two ((4, 2) ∷ []) 4 2 10
    -- contradiction, idempotence, subsumption
    ∷ finds Two ((4, 2) ∷ []) 10 3 0
    ∷ finds Two ((4, 2) ∷ []) 10 2 10
    ∷ finds Two ((4, 2) ∷ []) 11 3 3
    -- substitution comes with level three
    ∷ stores Two ((4, 2) ∷ []) 11 2 (11, 2) 12
    ∷ stores Three ((4, 2) ∷ []) 11 2 (5, 2) 12
    -- two AND nodes: contradiction, subsumption
    ∷ finds Two ((4, 2) ∷ (6, 5) ∷ []) 10 12 0
    ∷ finds Two ((4, 2) ∷ (6, 5) ∷ []) 11 12 12
    -- two AND nodes: substitution
    ∷ stores Three ((4, 2) ∷ (6, 4) ∷ []) 11 12 (12, 3) 14
    -- a pair that is rewritten twice
    ∷ stores Three ((6, 2) ∷ (4, 2) ∷ (13, 11) ∷ []) 15 13 (10, 5) 16
    -- two AND nodes: idempotence comes with level four
    ∷ stores Three ((4, 2) ∷ (6, 4) ∷ []) 10 12 (12, 10) 14
    ∷ stores Four ((4, 2) ∷ (6, 4) ∷ []) 10 12 (12, 2) 14
    -- resolution
    ∷ finds Two ((4, 2) ∷ (5, 2) ∷ []) 11 13 3
    -- the other operations; EQUIV and XOR store three pairs, or as many as fit
    ∷ applies 1000000 Or 4 2 (Ok (edge 11, 1)) ((5, 3) ∷ [])
    ∷ applies 1000000 Implies 4 2 (Ok (edge 11, 1)) ((4, 3) ∷ [])
    ∷ applies 1000000 Equiv 2 4 (Ok (edge 14, 3)) ((5, 2) ∷ (4, 3) ∷ (13, 11) ∷ [])
    ∷ applies 1000000 Xor 2 4 (Ok (edge 15, 3)) ((5, 2) ∷ (4, 3) ∷ (13, 11) ∷ [])
    ∷ applies 1 Xor 2 4 (Err Full) ((5, 2) ∷ [])
    -- where nothing fits a pair is refused, and a trivial case is answered
    ∷ record { level = Two; limit = 0; before = []; request = and 2 4; answer = anded (Err Full); after = [] }
    ∷ record { level = Two; limit = 0; before = []; request = and 2 2; answer = anded (Ok (edge 2, false)); after = [] }
    ∷ []

abbrev pub Worked : Type 0
Worked = AllByRecursion Holds examples
