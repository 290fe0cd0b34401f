-- An AND request as a relation: how two operands are settled, and what then happens to the graph.
-- Each case stands by itself and names its condition, and nothing is said of the order in which code tests them.
use Rattle.std.specs.Prelude.{◌≡◌, ℕ, ◌+◌, ◌<◌, ◌≤◌, Bool, true, false, length, Some, None, Ok, Err, Option, Result, ◌≢◌}
use Rattle.std.specs.List.{slice_get}
use Rattle.rules.specs.declared.edge.Edge.{Edge}
use Rattle.rules.specs.declared.pair.Pair.{Pair}
use Rattle.rules.specs.declared.window.Window.{Window}
use Rattle.rules.specs.declared.window.Reply.{Reply}
use Rattle.rules.specs.declared.window.Reply.TheVariants.{Edge as an_edge, Pair as a_pair, Store as store}
use Rattle.rules.specs.Edges.{edge, plain, complement}
use Rattle.rules.specs.Pairs.{pair_of}
use Rattle.graph_model.specs.declared.refusal.Refusal.{Refusal}
use Rattle.graph_model.specs.declared.refusal.Refusal.TheVariants.{Full, NoNode}
use Rattle.graph_model.specs.declared.settled.Settled.{Settled}
use Rattle.graph_model.specs.declared.settled.Settled.TheVariants.{Answered, ToStore}
use Rattle.graph_model.specs.Graphs.{State, nodes, Inside}
use Rattle.graph_model.specs.Requests.{window, push}

-- two edges that no trivial case answers
pub record Unlike (x y : Edge) : Type 0 where
  pub x_not_false : x.0 ≡ 0 → ⊥
  pub y_not_false : y.0 ≡ 0 → ⊥
  pub x_not_true : x.0 ≡ 1 → ⊥
  pub y_not_true : y.0 ≡ 1 → ⊥
  pub not_same : x.0 ≡ y.0 → ⊥
  pub not_against : x.0 ≡ (complement y).0 → ⊥

-- the trivial cases, and which edge each answers
pub data Trivial (x y : Edge) : Option Edge → Type 0 where
  false_left : x.0 ≡ 0 → Trivial x y (Some (edge 0))
  false_right : y.0 ≡ 0 → Trivial x y (Some (edge 0))
  true_left : x.0 ≡ 1 → Trivial x y (Some y)
  true_right : y.0 ≡ 1 → Trivial x y (Some x)
  twice : x.0 ≡ y.0 → Trivial x y (Some x)
  against : x.0 ≡ (complement y).0 → Trivial x y (Some (edge 0))
  unlike : Unlike x y → Trivial x y None

-- a trivial case answers, or the rules do; a pair that they reply begins again; else the pair is to be stored
pub data Settles (b : Window → Reply) (s : State) : Edge → Edge → Settled → Type 0 where
  trivially : {x y e : Edge} → Trivial x y (Some e) → Settles b s x y (Answered e)
  by_rule : {x y e : Edge} → Unlike x y → b (window s (pair_of x y)) ≡ an_edge e → Settles b s x y (Answered e)
  again : {x y : Edge} {q : Pair} {g : Settled} → Unlike x y → b (window s (pair_of x y)) ≡ a_pair q → Settles b s q.larger q.smaller g → Settles b s x y g
  to_store : {x y : Edge} → Unlike x y → b (window s (pair_of x y)) ≡ store → Settles b s x y (ToStore (pair_of x y))

-- the pair is stored nowhere
abbrev pub Absent : State → Pair → Type 0
Absent s p = (i : ℕ) → slice_get s.pairs i ≢ Some p

-- an AND request by its cases: its answer, and the graph after it
pub data Ands (b : Window → Reply) (s : State) (x y : Edge) : Result (Edge × Bool) Refusal → State → Type 0 where
  no_node : (Inside s x → Inside s y → ⊥) → Ands b s x y (Err NoNode) s
  answered : {e : Edge} → Inside s x → Inside s y → Settles b s x y (Answered e) → Ands b s x y (Ok (e, false)) s
  found : {p : Pair} (i : ℕ) → Inside s x → Inside s y → Settles b s x y (ToStore p) → slice_get s.pairs i ≡ Some p → Ands b s x y (Ok (plain (s.inputs + 1 + i), false)) s
  added : {p : Pair} → Inside s x → Inside s y → Settles b s x y (ToStore p) → Absent s p → length s.pairs < s.limit → Ands b s x y (Ok (plain (nodes s), true)) (push s p)
  full : {p : Pair} → Inside s x → Inside s y → Settles b s x y (ToStore p) → Absent s p → s.limit ≤ length s.pairs → Ands b s x y (Err Full) s
