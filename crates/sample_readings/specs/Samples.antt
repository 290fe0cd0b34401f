-- What a sample is answered with, and how many nodes are then stored.
-- It is what reading the file into a new graph answers.
use Rattle.std.specs.Prelude.{◌≡◌, ℕ, List, length, min, replicate, string_bytes, Result}
use Rattle.rules.specs.declared.edge.Edge.{Edge}
use Rattle.rules.specs.Edges.{undefined_edge}
use Rattle.rules.specs.RuleLists.{by_rules}
use Rattle.rulesets.specs.declared.levels.OptLevel.TheVariants.{Three}
use Rattle.rulesets.specs.Levels.{level_rules}
use Rattle.graph_model.specs.Graphs.{State}
use Rattle.graph_model.specs.WellFormed.{new_state}
use Rattle.aiger_check.specs.declared.faults.CircuitFault.{CircuitFault}
use Rattle.aiger_room.specs.declared.room.Room.{Room}
use Rattle.aiger_room.specs.Rooms.{RoomFor}
use Rattle.aiger_read.specs.Reads.{Reads}
use Rattle.sample_readings.specs.declared.sample.Told.{Told}
use Rattle.sample_readings.specs.Answers.{answered}

-- the file was read at level three into a new graph with room for `limit` pairs, on a map of 8,192 places at most, and this is told of it
pub record Tells (bytes : List ℕ) (limit max_edge : ℕ) (t : Told) : Type 0 where
  pub room : Room
  pub named : RoomFor bytes room
  pub answer : Result ℕ CircuitFault
  pub graph : State
  pub map : List Edge
  pub outputs : List Edge
  pub reads : Reads (by_rules (level_rules Three)) bytes (new_state room.inputs limit max_edge) (replicate (min room.places 8192) undefined_edge) (replicate room.outputs undefined_edge) answer graph map outputs
  pub told : string_bytes t.answer ≡ answered answer outputs
  pub nodes : t.nodes ≡ length graph.pairs
