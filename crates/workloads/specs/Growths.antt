-- A graph that is asked for the AND of random edges, call after call.
-- Each call is the AND request of the graph, on the next two numbers of the stream.
use Rattle.std.specs.Prelude.{ℕ, zero, suc, ◌+◌, ◌*◌, Bool, length, nat_le, Ok, Err, Result, if◌then◌else◌}
use Rattle.rules.specs.declared.edge.Edge.{Edge}
use Rattle.rules.specs.declared.window.Window.{Window}
use Rattle.rules.specs.declared.window.Reply.{Reply}
use Rattle.rules.specs.Edges.{edge}
use Rattle.graph_model.specs.declared.refusal.Refusal.{Refusal}
use Rattle.graph_model.specs.Graphs.{State, nodes}
use Rattle.graph_model.specs.Requests.{Anded, and_of}
use Rattle.workloads.specs.Randoms.{below, after}

-- how many calls were made, the graph after them, and the state of the random numbers
pub record Growth : Type 0 where
  pub answer : Result ℕ Refusal
  pub graph : State
  pub state : ℕ

-- the AND of the two edges that the numbers name
abbrev pub asked : (Window → Reply) → State → ℕ → Anded
asked b s x = let n = 2 * nodes s in and_of b s (edge (below x n)) (edge (below (after x n) n))

-- the state of the random numbers after that
abbrev pub twice : State → ℕ → ℕ
twice s x = let n = 2 * nodes s in after (after x n) n

-- a refused call is the last one
abbrev pub unless_refused : Result (Edge × Bool) Refusal → State → ℕ → Growth → Growth
unless_refused (Ok a) s x g = g
unless_refused (Err c) s x g = record { answer = Err c; graph = s; state = x }

-- so many calls are left, and so many were made: none is made where there are m AND nodes
unfoldable pub growth : (Window → Reply) → ℕ → ℕ → ℕ → State → ℕ → Growth
growth b m zero made s x = record { answer = Ok made; graph = s; state = x }
growth b m (suc k) made s x =
    if nat_le m (length s.pairs) then record { answer = Ok made; graph = s; state = x }
    else unless_refused (asked b s x).answer (asked b s x).after (twice s x) (growth b m k (made + 1) (asked b s x).after (twice s x))

-- four calls for each node at most
abbrev pub grown_to : (Window → Reply) → ℕ → State → ℕ → Growth
grown_to b m s x = growth b m (4 * m) 0 s x
