-- An AND request as a function, defined on every state: the trivial cases, the rules, find or append.
-- The same stands as a relation in Settling.antt, and `and` promises both; worked requests hold answers in numbers.
use Rattle.std.specs.Prelude.{ℕ, zero, suc, ◌+◌, ◌-◌, Bool, true, false, ◌&&◌, [], ◌∷◌, ◌++◌, Some, None, Ok, Err, Option, Result, ◌==◌, nat_lt, if◌then◌else◌}
use Rattle.std.specs.List.{slice_get}
use Rattle.rules.specs.declared.edge.Edge.{Edge}
use Rattle.rules.specs.declared.pair.Pair.{Pair}
use Rattle.rules.specs.declared.window.Operand.{Operand}
use Rattle.rules.specs.declared.window.Window.{Window}
use Rattle.rules.specs.declared.window.Reply.{Reply}
use Rattle.rules.specs.declared.window.Reply.TheVariants.{Edge as an_edge, Pair as a_pair, Store as store}
use Rattle.rules.specs.Edges.{edge, plain, node, complement, same}
use Rattle.rules.specs.Pairs.{pair_of}
use Rattle.stores.specs.Stored.{position, accepts}
use Rattle.graph_model.specs.declared.refusal.Refusal.{Refusal}
use Rattle.graph_model.specs.declared.refusal.Refusal.TheVariants.{Full, NoNode}
use Rattle.graph_model.specs.declared.settled.Settled.{Settled}
use Rattle.graph_model.specs.declared.settled.Settled.TheVariants.{Answered, ToStore}
use Rattle.graph_model.specs.Graphs.{State, nodes}

-- the trivial cases: an operand false or true, the same edge twice, or an edge and its complement
unfoldable pub trivial : Edge → Edge → Option Edge
trivial x y =
    if x.0 == 0 then Some (edge 0)
    else (if y.0 == 0 then Some (edge 0)
    else (if x.0 == 1 then Some y
    else (if y.0 == 1 then Some x
    else (if same x y then Some x
    else (if same x (complement y) then Some (edge 0) else None)))))

-- the pair stored at an edge's node, if it is an AND node
unfoldable pub stored : State → Edge → Option Pair
stored s e = if nat_lt s.inputs (node e) then slice_get s.pairs (node e - (s.inputs + 1)) else None

abbrev pub operand : State → Edge → Operand
operand s e = record { edge = e; children = stored s e }

unfoldable pub window : State → Pair → Window
window s p = record { larger = operand s p.larger; smaller = operand s p.smaller }

abbrev pub by_reply : Pair → Reply → (Pair → Settled) → Settled
by_reply p (an_edge e) next = Answered e
by_reply p (a_pair q) next = next q
by_reply p store next = ToStore p

abbrev pub unless_trivial : Option Edge → Settled → Settled
unless_trivial (Some e) g = Answered e
unless_trivial None g = g

-- the trivial cases, then the rules, again from the start at each pair that they reply; on a budget of turns
unfoldable pub settle : (Window → Reply) → State → ℕ → Edge → Edge → Settled
settle b s zero x y = ToStore (pair_of x y)
settle b s (suc n) x y = unless_trivial (trivial x y) (by_reply (pair_of x y) (b (window s (pair_of x y))) (λ q. settle b s n q.larger q.smaller))

-- one more turn than the sum of the two node numbers
abbrev pub settlement : (Window → Reply) → State → Edge → Edge → Settled
settlement b s x y = settle b s (suc (node x + node y)) x y

-- an AND's answer, the edge and whether a node was added, and the graph after it
pub record Anded : Type 0 where
  pub answer : Result (Edge × Bool) Refusal
  pub after : State

-- one pair more
abbrev pub push : State → Pair → State
push s p = record { inputs = s.inputs; pairs = s.pairs ++ (p ∷ []); limit = s.limit; max_edge = s.max_edge }

abbrev pub place : State → Pair → Option ℕ → Anded
place s p (Some i) = record { answer = Ok (plain (s.inputs + 1 + i), false); after = s }
place s p None = if accepts s.limit s.max_edge s.pairs p then record { answer = Ok (plain (nodes s), true); after = push s p } else record { answer = Err Full; after = s }

abbrev pub reach : State → Settled → Anded
reach s (Answered e) = record { answer = Ok (e, false); after = s }
reach s (ToStore p) = place s p (position p s.pairs)

unfoldable pub and_of : (Window → Reply) → State → Edge → Edge → Anded
and_of b s x y =
    if nat_lt (node x) (nodes s) && nat_lt (node y) (nodes s) then reach s (settlement b s x y) else record { answer = Err NoNode; after = s }
