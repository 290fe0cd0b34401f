use Rattle.std.proofs.Common.{◌≡◌, ◌≤◌, true, List, length, sym, ◌∙◌, subst, arith}
use Rattle.std.proofs.lemmas.Bool.{cond-true, and_from, eq-eqb, le-leb}
use Rattle.graph_model.specs.Graphs.{nodes}
use Rattle.graph.specs.States.{state}
use Rattle.questions.specs.Evaluation.{suits}
use Rattle.questions.specs.Valuations.{Valuation}
use Rattle.questions.proofs.Filled.{filled}
use Rattle.questions.proofs.Valuations.{valued}
use Rattle.questions.proofs.evaluate.evaluate.Goals as goal

pub returns : goal.returns
returns g c =
    let k = g.V.Value.algebra in
    let s = state c.args.graph.now in
    let ins = c.args.inputs.now in
    let old = c.args.values.now in
    let given : length ins ≡ s.inputs = omega (arith, c.inputs.ensures.answer) in
    let room : nodes s ≤ length old = omega (arith, c.nodes.ensures.answer) in
    let yes : suits s (length ins) (length old) ≡ true = and_from _ _ (eq-eqb _ _ given) (le-leb _ _ room) in
    let all = filled k s ins old c.fill_inputs.new.values c.fill_ands.new.values given room c.fill_inputs.ensures c.fill_ands.ensures in
    let P : List g.row.V.Denot → Type 0 = Valuation k s ins in
    record {
      answer = sym (cond-true _ _ _ yes);
      values = all ∙ sym (cond-true _ _ _ yes);
      well = λ e. subst P (sym all) (valued k _ (g.R.RuleSet.lawful c.args.graph.now.rules) s c.args.graph.now.well ins old given);
    }
