use Rattle.std.proofs.Common.{sym, refl, ◌∙◌, subst}
use Rattle.graph_model.specs.Stores.{state_of}
use Rattle.graph_model.specs.WellFormed.{Well}
use Rattle.graph.specs.States.{state, replies}
use Rattle.graph.proofs.Steps.{well_placed, appended}
use Rattle.graph.proofs.graph.Graph.find_or_add.Goals as goal

pub invariant_of-self : goal.invariant_of-self
invariant_of-self g c =
    let s = c.args.self.now in
    let e = c.append.ensures in
    let h = c.requires in
    let placed = appended (state s) (state_of g.S.NodeStore.model s.inputs c.append.new.self) c.args.pair (sym c.find.ensures.answer ∙ c.in_default.is) refl e.list e.limit e.edges in
    record { few = s.few; well = subst (Well (replies s)) (sym placed) (well_placed _ (g.R.RuleSet.lawful s.rules) _ h.0 h.1 _ s.well h.2 h.3 h.4) }
