use Rattle.std.proofs.Common.{◌≡◌, ℕ, ◌+◌, min, List, [], ◌∷◌, Some, None, drop, refl, ap, subst, ◌∙◌}
use Rattle.std.specs.Fmt.{digits}
use Rattle.rules.specs.Edges.{edge}
use Rattle.graph_model.specs.declared.operation.Operation.TheVariants.{Xor}
use Rattle.history_model.specs.declared.request.Request.{Request}
use Rattle.history_model.specs.declared.request.Request.TheVariants as request
use Rattle.request_lines.specs.declared.line.Opening.{Opening}
use Rattle.request_lines.specs.declared.line.Ask.{Ask}
use Rattle.request_lines.specs.declared.line.Ask.TheVariants as an_ask
use Rattle.request_scripts.specs.declared.step.Step.{Step}
use Rattle.request_scripts.specs.declared.step.Step.TheVariants as a_step
use Rattle.request_lines.specs.Lines.{asked}
use Rattle.request_scripts.specs.Steps.{AskRequest, ask_adds, places_for, Asks}
use Rattle.request_scripts.specs.Worked.{opening, steps}
use Rattle.request_scripts.proofs.worked.worked_script.Goals as goal

-- what a step asks, and the steps after it
asked_first : {W : Type 0} (o : Opening) (most : ℕ) (a : Ask) (ss : List Step) (rs : List (Request W)) (q : Request W) → ((r : Request W) → AskRequest a (places_for o most) r → r ≡ q) → Asks o most (a_step.Ask a ∷ ss) rs
    → (rest : List (Request W)) × (rs ≡ q ∷ rest) × Asks o (min (most + ask_adds (asked a)) 1000000) ss rest
asked_first o most a ss rs q only (None, rest, n, e, r, d, more) = absurd r
asked_first {W} o most a ss rs q only (Some p, rest, n, e, r, d, more) =
    let L : ℕ → Type 0 = λ z. Asks o (min (most + z) 1000000) ss rest in
    (rest, e ∙ ap (λ z. z ∷ rest) (only p r), subst L d more)

misread_first : {W : Type 0} (o : Opening) (most k : ℕ) (ss : List Step) (rs : List (Request W)) → Asks o most (a_step.Misread k ∷ ss) rs → (rest : List (Request W)) × (rs ≡ rest) × Asks o (min (most + 0) 1000000) ss rest
misread_first o most k ss rs (Some p, rest, n, e, r, d, more) = absurd r
misread_first {W} o most k ss rs (None, rest, n, e, r, d, more) =
    let L : ℕ → Type 0 = λ z. Asks o (min (most + z) 1000000) ss rest in
    (rest, e, subst L d more)

pub returns : goal.returns
unfolding digits
returns c = record {
  asks = λ rs h.
      let compared = asked_first opening 0 (an_ask.Compare (edge 2) (edge 4)) (drop 1 steps) rs (request.Compare (edge 2) (edge 4) 3) (λ r q. q) h in
      let anded = asked_first opening 0 (an_ask.And (edge 2) (edge 4)) (drop 2 steps) compared.0 (request.And (edge 2) (edge 4)) (λ r q. q) compared.2 in
      let misread = misread_first opening 1 4 (drop 3 steps) anded.0 anded.2 in
      let applied = asked_first opening 1 (an_ask.Apply Xor (edge 2) (edge 4)) (drop 4 steps) misread.0 (request.Apply Xor (edge 2) (edge 4)) (λ r q. q) misread.2 in
      let again = asked_first opening 4 (an_ask.Compare (edge 6) (edge 7)) [] applied.0 (request.Compare (edge 6) (edge 7) 7) (λ r q. q) applied.2 in
      compared.1 ∙ ap (λ z. request.Compare (edge 2) (edge 4) 3 ∷ z) (anded.1 ∙ ap (λ z. request.And (edge 2) (edge 4) ∷ z) (misread.1 ∙ applied.1 ∙ ap (λ z. request.Apply Xor (edge 2) (edge 4) ∷ z) (again.1 ∙ ap (λ z. request.Compare (edge 6) (edge 7) 7 ∷ z) again.2)));
  text = refl;
}
