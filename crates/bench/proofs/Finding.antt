-- What a comparison of the two edges of a question has to find.
use Rattle.std.proofs.Common.{◌≡◌, ℕ, ◌^◌, ◌<◌, Bool, true, false, Option, Some, None, sym, refl, ap, ◌∙◌, arith}
use Rattle.std.proofs.lemmas.Bool.{false≢true}
use Rattle.rules.specs.declared.edge.Edge.{Edge}
use Rattle.graph_model.specs.Graphs.{State}
use Rattle.graph_model.specs.WellFormed.{Extends}
use Rattle.questions.specs.Assignments.{assignment}
use Rattle.questions.specs.Comparison.{Compares}
use Rattle.workloads.specs.declared.question.Question.{Question}
use Rattle.workloads.specs.declared.question.Question.TheVariants.{Parities, Conjunction}
use Rattle.workloads.specs.Questions.{parity, all_true, Asks}
use Rattle.workloads.proofs.Stepping.{later}
use Rattle.bench.specs.Counts.{Found}

-- under the last assignment every input is true
last_true : all_true (assignment 65535) 16 ≡ true
unfolding all_true
last_true = refl

-- there are 65,536 assignments
assignments : (s t : State) → s.inputs ≡ 16 → Extends s t → 2 ^ t.inputs ≡ 65536
assignments s t e x = ap (λ n. 2 ^ n) (x.inputs ∙ e)

pub found : (q : Question) (s t : State) (x y : Edge) (d : Option ℕ) → Asks q s x y → Extends s t → Compares t x y d → Found q d
found Parities s t x y None a e c = refl
found Parities s t x y (Some k) a e c =
    let left = (later s t x (λ ρ. parity ρ 16) e a.1).1 (assignment k) in
    let right = (later s t y (λ ρ. parity ρ 16) e a.2).1 (assignment k) in
    absurd (c.1 (left ∙ sym right))
found Conjunction s t x y None a e c =
    let left = (later s t x (λ ρ. all_true ρ 16) e a.1).1 (assignment 65535) in
    let right = (later s t y (λ ρ. false) e a.2).1 (assignment 65535) in
    let within : 65535 < 2 ^ t.inputs = omega (arith, assignments s t a.0 e) in
    absurd (false≢true (sym right ∙ sym (c 65535 within) ∙ left ∙ last_true))
found Conjunction s t x y (Some k) a e c =
    (k, refl, omega (arith, c.0, assignments s t a.0 e), all (all_true (assignment k) 16) refl)
  where
    all : (b : Bool) → all_true (assignment k) 16 ≡ b → b ≡ true
    all true h = refl
    all false h =
        let left = (later s t x (λ ρ. all_true ρ 16) e a.1).1 (assignment k) in
        let right = (later s t y (λ ρ. false) e a.2).1 (assignment k) in
        absurd (c.1 (left ∙ h ∙ sym right))
