use Rattle.std.proofs.Common.{ap, ◌∙◌}
use Rattle.rules.specs.declared.window.Operand.{Operand}
use Rattle.rules.specs.declared.window.Window.{Window}
use Rattle.graph_model.specs.Requests.{window}
use Rattle.graph.proofs.graph.Graph.window.Goals as goal

pub returns : goal.returns
unfolding window
returns g c =
    let W : Operand → Operand → Window = λ a b. record { larger = a; smaller = b } in
    ap (λ a. W a c.operand-2.result) c.operand.ensures ∙ ap (W _) c.operand-2.ensures
