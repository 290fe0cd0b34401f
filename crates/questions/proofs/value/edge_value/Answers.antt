use Rattle.std.proofs.Common.{◌≡◌, true, false, sym, ap, ◌∙◌}
use Rattle.std.proofs.lemmas.Bool.{cond-true, cond-false}
use Rattle.rules.specs.Edges.{node, complemented}
use Rattle.rules.specs.Meaning.{means}
use Rattle.graph_model.specs.Graphs.{at}
use Rattle.questions.proofs.value.edge_value.Goals.{After-is_complemented}
use Rattle.questions.proofs.value.edge_value.Goals as goal

of_node : (g : _) (c : After-is_complemented g) → c.node_value-value.result ≡ at g.V.Value.algebra c.args.values.now (node c.args.edge)
of_node g c = cc

pub returns-then-is_complemented : goal.returns-then-is_complemented
unfolding means
returns-then-is_complemented g c =
    let told = c.if-is_complemented.ensures in
    let yes : complemented c.args.edge ≡ true = cc in
    c.not.ensures ∙ ap g.V.Value.algebra.not (of_node g (goal.at.returns-then-is_complemented g c).After-is_complemented) ∙ sym (cond-true _ _ _ yes)

pub returns-else-is_complemented : goal.returns-else-is_complemented
unfolding means
returns-else-is_complemented g c =
    let told = c.if-is_complemented.ensures in
    let plain : complemented c.args.edge ≡ false = cc in
    of_node g (goal.at.returns-else-is_complemented g c).After-is_complemented ∙ sym (cond-false _ _ _ plain)
