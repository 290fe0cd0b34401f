-- OR, IMPLIES, EQUIV and XOR by AND requests, and the function that each requests.
-- What each operation requests is said by the algebra's own OR, IMPLIES, EQUIV and XOR, and the steps are proved to mean that.
use Rattle.std.specs.Prelude.{ℕ, ◌+◌, Bool, Ok, Err, Result, if◌then◌else◌}
use Rattle.values.specs.Algebra.{BooleanAlgebra, or, implies, equiv, xor}
use Rattle.rules.specs.declared.edge.Edge.{Edge}
use Rattle.rules.specs.declared.window.Window.{Window}
use Rattle.rules.specs.declared.window.Reply.{Reply}
use Rattle.rules.specs.Edges.{complement}
use Rattle.graph_model.specs.declared.operation.Operation.{Operation}
use Rattle.graph_model.specs.declared.operation.Operation.TheVariants.{Or, Implies, Equiv, Xor}
use Rattle.graph_model.specs.declared.refusal.Refusal.{Refusal}
use Rattle.graph_model.specs.Graphs.{State}
use Rattle.graph_model.specs.Requests.{and_of}

-- the operations whose operands can be exchanged
pub data Symmetric : Operation → Type 0 where
  or_symmetric : Symmetric Or
  equiv_symmetric : Symmetric Equiv
  xor_symmetric : Symmetric Xor

-- the function of its operands that an operation requests
abbrev pub function : {V : Type 0} → BooleanAlgebra V → Operation → V → V → V
function k Or a b = or k a b
function k Implies a b = implies k a b
function k Equiv a b = equiv k a b
function k Xor a b = xor k a b

-- an operation's answer, the edge and how many nodes were added, and the graph after it
pub record Applied : Type 0 where
  pub answer : Result (Edge × ℕ) Refusal
  pub after : State

-- an AND's answer, with the nodes that were added counted
abbrev pub counted : Result (Edge × Bool) Refusal → Result (Edge × ℕ) Refusal
counted (Ok a) = Ok (a.0, (if a.1 then 1 else 0))
counted (Err c) = Err c

-- an answer with its edge complemented
abbrev pub turned : Result (Edge × ℕ) Refusal → Result (Edge × ℕ) Refusal
turned (Ok a) = Ok (complement a.0, a.1)
turned (Err c) = Err c

-- an operation made of several goes on only where the last one was answered; the nodes add up
abbrev pub chained : Result (Edge × ℕ) Refusal → State → (Edge → ℕ → State → Applied) → Applied
chained (Ok a) t next = next a.0 a.1 t
chained (Err c) t next = record { answer = Err c; after = t }

-- the complement of an AND
unfoldable pub nand_of : (Window → Reply) → State → Edge → Edge → Applied
nand_of b s x y = record { answer = turned (counted (and_of b s x y).answer); after = (and_of b s x y).after }

-- NOT (x AND NOT y), then NOT (NOT x AND y), then the AND of the two
unfoldable pub equiv_of : (Window → Reply) → State → Edge → Edge → Applied
equiv_of b s x y =
    let first = nand_of b s x (complement y) in
    chained first.answer first.after (λ p l t.
    let second = nand_of b t (complement x) y in
    chained second.answer second.after (λ q m u.
    let third = and_of b u p q in
    chained (counted third.answer) third.after (λ e n w.
    record { answer = Ok (e, l + m + n); after = w })))

-- any of the four
unfoldable pub apply_of : (Window → Reply) → State → Operation → Edge → Edge → Applied
apply_of b s Or x y = nand_of b s (complement x) (complement y)
apply_of b s Implies x y = nand_of b s x (complement y)
apply_of b s Equiv x y = equiv_of b s x y
apply_of b s Xor x y = record { answer = turned (equiv_of b s x y).answer; after = (equiv_of b s x y).after }
