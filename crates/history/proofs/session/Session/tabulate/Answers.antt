use Rattle.std.proofs.Common.{◌≡◌, length, replicate, ap, ◌∙◌, arith}
use lib.ListN.{length-replicate}
use Rattle.values.specs.Rows.{table_algebra}
use Rattle.graph.specs.States.{state}
use Rattle.questions.specs.Tabulation.{tabulation, tables_after, table_after}
use Rattle.history_model.specs.Histories.{charted}
use Rattle.history.proofs.Running.{refilled}
use Rattle.history.proofs.session.Session.tabulate.Goals as goal

pub returns : goal.returns
returns g c =
    let s = state c.args.self.now.graph in
    let r = c.tabulate-done.result in
    let blank : c.as_mut_slice.result.now ≡ replicate c.args.places table_algebra.bottom = c.as_mut_slice.ensures.value ∙ c.in_ok-tables.ensures in
    λ os. charted (c.tabulate-done.ensures.answer ∙ ap (tabulation s c.args.edge) (ap length blank ∙ length-replicate c.args.places table_algebra.bottom))
    (c.tabulate-done.ensures.table ∙ ap (table_after r s c.args.edge) c.bottom-table.ensures)
    (refilled _ _ _ (omega (arith, c.tabulate-done.auto.tables, c.as_mut_slice.ensures.len)) ∙ c.tabulate-done.ensures.tables ∙ ap (tables_after r s) blank)
