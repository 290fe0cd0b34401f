use Rattle.std.proofs.Common.{◌≡◌, ℕ, ◌≤◌, IfOk, Ok, Err, Result, sym, ap, ◌∙◌, subst, ap₂}
use Rattle.rules.specs.declared.edge.Edge.{Edge}
use Rattle.graph_model.specs.declared.refusal.Refusal.{Refusal}
use Rattle.graph_model.specs.Operations.{nand_of, counted, turned}
use Rattle.graph.proofs.Chains.{refused, as_number, flag_limit}
use Rattle.graph.proofs.graph.Graph.nand.Goals as goal

pub returns-in_err-edge : goal.returns-in_err-edge
unfolding nand_of
returns-in_err-edge g c =
    let e = c.in_err-edge.ensures in
    let r : c.from_residual.result ≡ Err c.in_err-edge.field-0.0 = refused _ _ c.from_residual.ensures.1 in
    let P : Result (Edge × ℕ) Refusal → Type 0 = λ z. IfOk z (λ a. a.1 ≤ 1) in
    record { answer = r ∙ ap (λ z. turned (counted z)) e.answer; graph = e.graph; rules = e.rules; limit = subst P (sym r) tt }

pub returns : goal.returns
unfolding nand_of
returns g c =
    let e = c.in_ok-edge.ensures in
    record {
      answer = ap₂ (λ z n. Ok (z, n)) c.complement.ensures (c.from.ensures ∙ as_number c.in_ok-edge.added) ∙ ap (λ z. turned (counted z)) e.answer;
      graph = e.graph;
      rules = e.rules;
      limit = subst (λ z. z ≤ 1) (sym c.from.ensures) (flag_limit c.in_ok-edge.added);
    }
