use Rattle.std.proofs.Common.{◌≡◌, ◌⊎◌, false, nat_lt, sym, refl, ap, ◌∙◌, inl, inr}
use Rattle.rules.specs.Edges.{node}
use Rattle.graph_model.specs.Graphs.{nodes}
use Rattle.graph_model.specs.Requests.{reach}
use Rattle.graph.specs.States.{state, replies}
use Rattle.graph.proofs.Steps.{and_outside, and_inside, did_and}
use Rattle.graph.proofs.graph.Graph.and.Goals as goal
use Rattle.graph.proofs.graph.Graph.and.Goals.{then-not-contains-via-then-not-contains, then-not-contains-via-else-not-contains+then-not-contains-2}

pub returns-then-not-contains : goal.returns-then-not-contains
returns-then-not-contains g c =
    let s = c.args.self.now in
    let out : (nat_lt (node c.args.x) (nodes (state s)) ≡ false) ⊎ (nat_lt (node c.args.y) (nodes (state s)) ≡ false) =
    elim c.then-not-contains.branch [ then-not-contains-via-then-not-contains w ↦ inl (sym w.if-not-contains.ensures) | then-not-contains-via-else-not-contains+then-not-contains-2 w ↦ inr (sym w.if-not-contains-2.ensures) ] in
    let d = did_and (replies s) (g.R.RuleSet.lawful s.rules) (state s) (state s) c.args.x c.args.y _ _ s.well (and_outside _ _ _ _ out) refl refl in
    record { answer = d.answer; graph = d.graph; rules = refl; cases = d.cases }

pub returns-in-Answered : goal.returns-in-Answered
returns-in-Answered g c =
    let s = c.args.self.now in
    let inside = and_inside (replies s) (state s) c.args.x c.args.y (sym c.if-not-contains.ensures) (sym c.if-not-contains-2.ensures) in
    let d = did_and (replies s) (g.R.RuleSet.lawful s.rules) (state s) (state s) c.args.x c.args.y _ _ s.well (inside ∙ ap (reach (state s)) (sym c.settle.ensures ∙ c.in-Answered.is)) refl refl in
    record { answer = d.answer; graph = d.graph; rules = refl; cases = d.cases }

pub returns-in-ToStore : goal.returns-in-ToStore
returns-in-ToStore g c =
    let s = c.args.self.now in
    let e = c.find_or_add.ensures in
    let inside = and_inside (replies s) (state s) c.args.x c.args.y (sym c.if-not-contains.ensures) (sym c.if-not-contains-2.ensures) in
    let d = did_and (replies s) (g.R.RuleSet.lawful s.rules) (state s) _ c.args.x c.args.y _ _ s.well (inside ∙ ap (reach (state s)) (sym c.settle.ensures ∙ c.in-ToStore.is)) e.answer e.graph in
    record { answer = d.answer; graph = d.graph; rules = e.rules; cases = d.cases }
