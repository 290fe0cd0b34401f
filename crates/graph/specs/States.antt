-- What a graph stands for: its rules by what they reply, and its state by what its store stands for.
-- It only names the parts that a graph has.
use Rattle.rules.specs.declared.window.Window.{Window}
use Rattle.rules.specs.declared.window.Reply.{Reply}
use Rattle.rulesets.specs.declared.ruleset.RuleSet.{Ghosts as RuleSets}
use Rattle.stores.specs.declared.store.NodeStore.{Ghosts as NodeStores}
use Rattle.graph_model.specs.Graphs.{State}
use Rattle.graph_model.specs.Stores.{state_of}
use Rattle.graph.specs.declared.graph.Graph.{Graph}

abbrev pub state : {R S : Type 0} {r : RuleSets R} {s : NodeStores S} → Graph R S r s → State
state {s = s} g = state_of s.model g.inputs g.store

-- what the graph's rules reply to each window
abbrev pub replies : {R S : Type 0} {r : RuleSets R} {s : NodeStores S} → Graph R S r s → Window → Reply
replies {r = r} g = r.replies g.rules
