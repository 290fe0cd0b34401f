-- What an evaluation answers, and what it leaves in the list of node values.
-- Valuations.antt says the same as a relation, and `evaluate` promises both.
use Rattle.std.specs.Prelude.{ℕ, ◌-◌, Bool, ◌&&◌, List, ◌++◌, length, drop, Ok, Err, Result, ◌==◌, nat_le, slice_index_or, if◌then◌else◌}
use Rattle.values.specs.Algebra.{BooleanAlgebra}
use Rattle.graph_model.specs.declared.refusal.Refusal.{Refusal}
use Rattle.graph_model.specs.declared.refusal.Refusal.TheVariants.{Values}
use Rattle.graph_model.specs.Graphs.{State, nodes, node_values}

-- input i has the i-th value, from 1 on
abbrev pub assigned : {V : Type 0} → BooleanAlgebra V → List V → ℕ → V
assigned k vs i = slice_index_or vs (i - 1) k.bottom

-- one value for each input, and a place for each node
abbrev pub suits : State → ℕ → ℕ → Bool
suits s given room = given == s.inputs && nat_le (nodes s) room

abbrev pub evaluation : State → ℕ → ℕ → Result (Unit {0}) Refusal
evaluation s given room = if suits s given room then Ok tt else Err Values

-- the list after an evaluation: the value of every node, and the places beyond as they were; or as it was
abbrev pub evaluated : {V : Type 0} → BooleanAlgebra V → State → List V → List V → List V
evaluated k s ins old = if suits s (length ins) (length old) then node_values k (assigned k ins) s ++ drop (nodes s) old else old
