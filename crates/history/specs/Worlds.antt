-- A session as a world.
-- It only ties the graph in memory to the mathematical one.
use Rattle.std.specs.Prelude.{List, vec_items}
use Rattle.values.specs.Algebra.{BooleanAlgebra}
use Rattle.rules.specs.declared.edge.Edge.{Edge}
use Rattle.rules.specs.declared.window.Window.{Window}
use Rattle.rules.specs.declared.window.Reply.{Reply}
use Rattle.rulesets.specs.declared.ruleset.RuleSet.{Ghosts as RuleSets}
use Rattle.stores.specs.declared.store.NodeStore.{Ghosts as NodeStores}
use Rattle.graph_model.specs.Graphs.{State}
use Rattle.graph.specs.States.{state}
use Rattle.history_model.specs.declared.request.Request.{Request}
use Rattle.history_model.specs.Histories.{Told, World, Happens}
use Rattle.history.specs.declared.session.Session.{Session}

abbrev pub world : {R S : Type 0} {r : RuleSets R} {s : NodeStores S} → Session R S r s → World
world s = record { graph = state s.graph; outputs = vec_items s.last }

-- a question to the graph s: it leaves everything as it was, whatever outputs are kept
abbrev pub Questioned : {W : Type 0} → BooleanAlgebra W → (Window → Reply) → State → Request W → Told W → Type 0
Questioned j b s r a = (os : List Edge) → Happens j b (record { graph = s; outputs = os }) r a (record { graph = s; outputs = os })
