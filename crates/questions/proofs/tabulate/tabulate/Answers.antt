use Rattle.std.proofs.Common.{◌≡◌, ◌<◌, ◌≤◌, take, sym, ap, ◌∙◌, arith}
use Rattle.std.proofs.lemmas.Bool.{cond-true, cond-false, lt-leb, le-ltb, ltb-true}
use Rattle.values.specs.Rows.{table_algebra, table_rows}
use Rattle.values.specs.Columns.{table_column}
use Rattle.rules.specs.Edges.{node}
use Rattle.rules.specs.Meaning.{means}
use Rattle.graph_model.specs.Graphs.{nodes, at}
use Rattle.graph.specs.States.{state}
use Rattle.questions.specs.Assignments.{edge_bit}
use Rattle.questions.specs.Tabulation.{edge_table}
use Rattle.questions.proofs.Tabled.{first_columns, edge_tabled, evaluated_tables}
use Rattle.questions.proofs.tabulate.tabulate.Goals as goal

pub returns : goal.returns
returns g c =
    let s = state c.args.graph.now in
    let edge = c.args.edge in
    let n = c.inputs-inputs.result in
    let few : s.inputs ≤ 8 = omega (arith, c.inputs-inputs.ensures.answer) in
    let inside : node edge < nodes s = ltb-true _ _ (sym c.if-not-contains.ensures) in
    let left = evaluated_tables s (take n c.input_tables.result) c.args.tables.now c.evaluate.new.values c.evaluate.result c.in_ok-evaluate.field-0
    (first_columns table_column 8 s.inputs n c.input_tables.result c.input_tables.ensures (omega (arith, c.inputs-inputs.ensures.answer)) few)
    c.evaluate.ensures.answer c.in_ok-evaluate.was c.evaluate.ensures.values in
    let made : c.edge_value.result ≡ edge_table s edge =
    c.edge_value.ensures ∙ ap (λ ts. means table_algebra (at table_algebra ts) edge) left.tables ∙ edge_tabled s edge c.args.tables.now inside in
    record {
      answer = sym (cond-false _ _ _ (lt-leb _ _ inside) ∙ cond-false _ _ _ (le-ltb _ _ few) ∙ cond-true _ _ _ left.room);
      tables = left.tables;
      table = made;
      cases = λ _ k h. ap (table_rows.row k) made ∙ table_rows.row_make (λ k. edge_bit s k edge) k h;
    }
