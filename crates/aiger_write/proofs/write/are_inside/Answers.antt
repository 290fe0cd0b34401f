use Rattle.std.proofs.Common.{ltb, refl, ◌∙◌, rules, tests}
use Rattle.std.proofs.lemmas.Iterator.{YieldsList-from_slice}
use Rattle.std.proofs.lemmas.Iterator.Search.{all_from_yields_List}
use Rattle.rules.specs.Edges.{node}
use Rattle.graph_model.specs.Graphs.{nodes}
use Rattle.graph.specs.States.{state}
use Rattle.aiger_write.proofs.Whole.{list_all-inside}
use Rattle.aiger_write.proofs.write.are_inside.Goals as goal

pub returns : goal.returns
returns g c =
    let es = c.args.edges.now in
    let s = state c.args.graph.now in
    all_from_yields_List (λ e. ltb (node e) (nodes s)) _ _ c.all.result c.all.ensures.ran (YieldsList-from_slice es cc) (λ x b q k. search (rules, tests))
    ∙ list_all-inside s (nodes s) es refl
