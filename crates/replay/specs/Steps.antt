-- The steps that the lines of a graph come to.
-- Each line is one step, in order; only what a file holds is left open.
use Rattle.std.specs.Prelude.{◌≡◌, ℕ, List, [], ◌∷◌, Some, Option, Vec}
use Rattle.std.specs.declared.alloc.Global.{Global}
use Rattle.request_lines.specs.declared.line.Line.{Line}
use Rattle.request_lines.specs.declared.line.Line.TheVariants.{Read, Ask}
use Rattle.request_scripts.specs.declared.step.Step.{Step}
use Rattle.request_scripts.specs.declared.step.Step.TheVariants as a_step

-- what a line comes to, by its number
abbrev pub StepFor : ℕ → Option Line → Step → Type 0
StepFor k (Some (Ask a)) s = s ≡ a_step.Ask a
StepFor k (Some (Read path)) s = (bytes : Vec ℕ Global) × (s ≡ a_step.File bytes)
StepFor k l s = s ≡ a_step.Misread k

abbrev pub StepsFor : List (ℕ × Option Line) → List Step → Type 0
StepsFor [] [] = Unit {0}
StepsFor [] (s ∷ ss) = ⊥
StepsFor (l ∷ ls) [] = ⊥
StepsFor (l ∷ ls) (s ∷ ss) = StepFor l.0 l.1 s × StepsFor ls ss
