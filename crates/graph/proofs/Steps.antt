-- What the clauses of an AND call follow from.
use Rattle.std.proofs.Common.{◌≡◌, ℕ, Bool, true, false, cond, ◌⊎◌, List, [], ◌∷◌, ◌++◌, None, Ok, Err, Result, sym, ap, ◌∙◌, ap₂, subst, inl, inr, nat_lt}
use Rattle.std.proofs.lemmas.Bool.{cond-true, cond-false, lt-ltb, and_from, and_left, and_right}
use Rattle.rules.specs.declared.edge.Edge.{Edge}
use Rattle.rules.specs.declared.pair.Pair.{Pair}
use Rattle.rules.specs.declared.window.Window.{Window}
use Rattle.rules.specs.declared.window.Reply.{Reply}
use Rattle.rules.specs.Edges.{node, plain}
use Rattle.rules.specs.Lawful.{Lawful}
use Rattle.stores.specs.Stored.{position, accepts, joined}
use Rattle.graph_model.specs.declared.refusal.Refusal.{Refusal}
use Rattle.graph_model.specs.declared.refusal.Refusal.TheVariants.{Full, NoNode}
use Rattle.graph_model.specs.Graphs.{State, Inside, nodes}
use Rattle.graph_model.specs.declared.settled.Settled.TheVariants.{ToStore}
use Rattle.graph_model.specs.Requests.{Anded, push, place, reach, settlement, and_of}
use Rattle.graph_model.specs.Settling.{Ands}
use Rattle.graph_model.specs.WellFormed.{Well}
use Rattle.graph_model.proofs.Requests.{and_ands, ands_well}

pub and_outside : (b : Window → Reply) (s : State) (x y : Edge) → (nat_lt (node x) (nodes s) ≡ false) ⊎ (nat_lt (node y) (nodes s) ≡ false) → and_of b s x y ≡ record { answer = Err NoNode; after = s }
unfolding and_of
and_outside b s x y (inl h) = cond-false _ _ _ (and_left _ _ h)
and_outside b s x y (inr h) = cond-false _ _ _ (and_right _ _ h)

pub and_inside : (b : Window → Reply) (s : State) (x y : Edge) → nat_lt (node x) (nodes s) ≡ true → nat_lt (node y) (nodes s) ≡ true → and_of b s x y ≡ reach s (settlement b s x y)
unfolding and_of
and_inside b s x y i j = cond-true _ _ _ (and_from _ _ i j)

-- two states with the same parts
pub same_state : (s t : State) → s.inputs ≡ t.inputs → s.pairs ≡ t.pairs → s.limit ≡ t.limit → s.max_edge ≡ t.max_edge → s ≡ t
same_state s t i p l m =
    let S : ℕ → List Pair → ℕ → ℕ → State = λ a b c d. record { inputs = a; pairs = b; limit = c; max_edge = d } in
    ap (λ z. S z s.pairs s.limit s.max_edge) i ∙ ap (λ z. S t.inputs z s.limit s.max_edge) p ∙ ap₂ (S t.inputs t.pairs) l m

-- a pair that two edges of a well-formed graph settle to may be placed
pub well_placed : (b : Window → Reply) → Lawful b → (s : State) (x y : Edge) (p : Pair) → Well b s → Inside s x → Inside s y → settlement b s x y ≡ ToStore p
    → Well b (place s p (position p s.pairs)).after
well_placed b lawful s x y p w i j e =
    let P : Anded → Type 0 = λ a. Well b a.after in
    subst P (and_inside b s x y (lt-ltb _ _ i) (lt-ltb _ _ j) ∙ ap (reach s) e) (ands_well lawful w (and_ands b lawful s w x y))

-- a call that did what the definition says did what the relation says
pub did_and : (b : Window → Reply) → Lawful b → (s t : State) (x y : Edge) (r : Result (Edge × Bool) Refusal) (d : Anded) → Well b s → and_of b s x y ≡ d → r ≡ d.answer → t ≡ d.after
    → record { answer : r ≡ (and_of b s x y).answer; graph : t ≡ (and_of b s x y).after; cases : Ands b s x y r t }
did_and b lawful s t x y r d w e a f =
    let P : State → Type 0 = λ u. Ands b s x y r u in
    let Q : Result (Edge × Bool) Refusal → Type 0 = λ z. Ands b s x y z d.after in
    let R : Anded → Type 0 = λ z. Ands b s x y z.answer z.after in
    record {
      answer = a ∙ ap (λ (z : Anded). z.answer) (sym e);
      graph = f ∙ ap (λ (z : Anded). z.after) (sym e);
      cases = subst P (sym f) (subst Q (sym a) (subst R e (and_ands b lawful s w x y)));
    }

-- the state after a pair that is not stored yet is appended, whether there was room or not
pub appended : (s t : State) (p : Pair) → position p s.pairs ≡ None → t.inputs ≡ s.inputs → t.pairs ≡ joined s.limit s.max_edge s.pairs p → t.limit ≡ s.limit → t.max_edge ≡ s.max_edge
    → t ≡ (place s p (position p s.pairs)).after
appended s t p none i q l m =
    let by_room : (b : Bool) → t.pairs ≡ cond b (s.pairs ++ p ∷ []) s.pairs → t ≡ (cond {A = Anded} b (record { answer = Ok (plain (nodes s), true); after = push s p }) (record { answer = Err Full; after = s })).after
    = elim [ true ↦ λ e. same_state t (push s p) i e l m | false ↦ λ e. same_state t s i e l m ] in
    by_room (accepts s.limit s.max_edge s.pairs p) q ∙ ap (λ o. (place s p o).after) (sym none)
