use Rattle.std.proofs.Common.{Ok, ap, ◌∙◌}
use Rattle.graph_model.specs.Operations.{apply_of, turned}
use Rattle.graph.proofs.Chains.{refused}
use Rattle.graph.proofs.graph.Graph.xor.Goals as goal

pub returns-in_err-edge : goal.returns-in_err-edge
unfolding apply_of
returns-in_err-edge g c =
    let e = c.in_err-edge.ensures in
    record { answer = refused _ _ c.from_residual.ensures.1 ∙ ap turned e.answer; graph = e.graph; rules = e.rules }

pub returns : goal.returns
unfolding apply_of
returns g c =
    let e = c.in_ok-edge.ensures in
    record { answer = ap (λ z. Ok (z, c.in_ok-edge.added)) c.complement.ensures ∙ ap turned e.answer; graph = e.graph; rules = e.rules }
