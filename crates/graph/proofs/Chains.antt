-- What the clauses of the operations made of AND calls follow from.
use Rattle.std.proofs.Common.{◌≡◌, ℕ, ◌≤◌, Bool, true, false, cond, IsErrAnd, Ok, Err, Result, sym, refl, ap, ◌∙◌, ap₂, lit≤}
use mir.Val.{bool_byte}
use Rattle.rules.specs.declared.edge.Edge.{Edge}
use Rattle.rules.specs.declared.window.Window.{Window}
use Rattle.rules.specs.declared.window.Reply.{Reply}
use Rattle.graph_model.specs.declared.refusal.Refusal.{Refusal}
use Rattle.graph_model.specs.Graphs.{State}
use Rattle.graph_model.specs.Requests.{Anded, and_of}
use Rattle.graph_model.specs.Operations.{Applied, counted, chained, nand_of}

-- an answer and a graph are those of an outcome
pub record Did (d : Applied) (a : Result (Edge × ℕ) Refusal) (t : State) : Type 0 where
  pub answer : a ≡ d.answer
  pub after : t ≡ d.after

pub did_as : (d : Applied) (f : Applied) → d ≡ f → Did d f.answer f.after
did_as d f e = record { answer = ap (λ (z : Applied). z.answer) (sym e); after = ap (λ (z : Applied). z.after) (sym e) }

-- the first step was answered, so the next one is made
pub goes_on : (d : Applied) (next : Edge → ℕ → State → Applied) (e : Edge) (n : ℕ) (t : State) → Did d (Ok (e, n)) t → chained d.answer d.after next ≡ next e n t
goes_on d next e n t h = ap (λ a. chained a d.after next) (sym h.answer) ∙ ap (next e n) (sym h.after)

-- the first step was refused, and that is the answer
pub stops : (d : Applied) (next : Edge → ℕ → State → Applied) (c : Refusal) (t : State) → Did d (Err c) t → chained d.answer d.after next ≡ record { answer = Err c; after = t }
stops d next c t h =
    let refusal : State → Applied = λ u. record { answer = Err c; after = u } in
    ap (λ a. chained a d.after next) (sym h.answer) ∙ ap refusal (sym h.after)

-- an AND with its added nodes counted
abbrev pub counted_and : (Window → Reply) → State → Edge → Edge → Applied
counted_and b s x y = record { answer = counted (and_of b s x y).answer; after = (and_of b s x y).after }

module _ {R : Type 0} (replies : R → Window → Reply) (s t : State) (r q : R) (x y u v : Edge) where
  -- a call under the rules q, which are r, with the edges u and v, which are x and y
  pub did_nand : (a : Result (Edge × ℕ) Refusal) → q ≡ r → u ≡ x → v ≡ y → a ≡ (nand_of (replies q) s u v).answer → t ≡ (nand_of (replies q) s u v).after → Did (nand_of (replies r) s x y) a t
  did_nand a e f g h i =
      let same : nand_of (replies q) s u v ≡ nand_of (replies r) s x y = ap (λ z. nand_of (replies z) s u v) e ∙ ap₂ (nand_of (replies r) s) f g in
      record { answer = h ∙ ap (λ (z : Applied). z.answer) same; after = i ∙ ap (λ (z : Applied). z.after) same }

  pub did_and : (a : Result (Edge × Bool) Refusal) → q ≡ r → u ≡ x → v ≡ y → a ≡ (and_of (replies q) s u v).answer → t ≡ (and_of (replies q) s u v).after → Did (counted_and (replies r) s x y) (counted a) t
  did_and a e f g h i =
      let same : and_of (replies q) s u v ≡ and_of (replies r) s x y = ap (λ z. and_of (replies z) s u v) e ∙ ap₂ (and_of (replies r) s) f g in
      record { answer = ap counted (h ∙ ap (λ (z : Anded). z.answer) same); after = i ∙ ap (λ (z : Anded). z.after) same }

-- a refusal handed on by `?`
pub refused : (a : Result (Edge × ℕ) Refusal) (c : Refusal) → IsErrAnd a (λ e. e ≡ c) → a ≡ Err c
refused (Ok x) c h = absurd h
refused (Err e) c h = ap Err h

-- a flag as a number
pub as_number : (b : Bool) → bool_byte b ≡ cond b 1 0
as_number true = refl
as_number false = refl

pub flag_limit : (b : Bool) → bool_byte b ≤ 1
flag_limit true = lit≤ tt
flag_limit false = lit≤ tt
