-- What tabulating an edge answers, and what it leaves in the list of tables and in the table.
-- Row k is said by what the edge means under assignment k alone.
use Rattle.std.specs.Prelude.{ℕ, ◌-◌, List, ◌++◌, drop, Ok, Err, Result, nat_le, nat_lt, if◌then◌else◌}
use Rattle.values.specs.declared.block.Block.{Block}
use Rattle.values.specs.declared.cofactors.Cofactors.{Cofactors}
use Rattle.values.specs.Rows.{table_algebra}
use Rattle.values.specs.Columns.{table_of, table_column}
use Rattle.rules.specs.declared.edge.Edge.{Edge}
use Rattle.rules.specs.Edges.{node}
use Rattle.graph_model.specs.declared.refusal.Refusal.{Refusal}
use Rattle.graph_model.specs.declared.refusal.Refusal.TheVariants.{NoNode, TooManyInputs, Values}
use Rattle.graph_model.specs.Graphs.{State, nodes, node_values}
use Rattle.questions.specs.Assignments.{edge_bit}

-- the first refusal that applies: no such node, more than eight inputs, or too few places
abbrev pub tabulation : State → Edge → ℕ → Result (Unit {0}) Refusal
tabulation s e room =
    if nat_le (nodes s) (node e) then Err NoNode
    else (if nat_lt 8 s.inputs then Err TooManyInputs
    else (if nat_le (nodes s) room then Ok tt else Err Values))

-- the table of every node, where input j, from 1 on, has digit j - 1 of k in row k
abbrev pub node_tables : State → List (Cofactors (Cofactors Block))
node_tables s = node_values table_algebra (λ j. table_column (j - 1)) s

-- the table whose row k is what the edge means under assignment k
abbrev pub edge_table : State → Edge → Cofactors (Cofactors Block)
edge_table s e = table_of (λ k. edge_bit s k e)

-- the list of tables afterwards: one for every node, and the places beyond as they were; or as it was
abbrev pub tables_after : Result (Unit {0}) Refusal → State → List (Cofactors (Cofactors Block)) → List (Cofactors (Cofactors Block))
tables_after (Ok _) s old = node_tables s ++ drop (nodes s) old
tables_after (Err _) s old = old

-- the table afterwards: the edge's, or as it was
abbrev pub table_after : Result (Unit {0}) Refusal → State → Edge → Cofactors (Cofactors Block) → Cofactors (Cofactors Block)
table_after (Ok _) s e old = edge_table s e
table_after (Err _) s e old = old
