-- One step more for one line more.
use Rattle.std.proofs.Common.{ℕ, List, [], ◌∷◌, ◌++◌, Option}
use Rattle.request_lines.specs.declared.line.Line.{Line}
use Rattle.request_scripts.specs.declared.step.Step.{Step}
use Rattle.replay.specs.Steps.{StepFor, StepsFor}

pub steps_push : (ls : List (ℕ × Option Line)) (ss : List Step) (l : ℕ × Option Line) (s : Step) → StepsFor ls ss → StepFor l.0 l.1 s → StepsFor (ls ++ (l ∷ [])) (ss ++ (s ∷ []))
steps_push [] [] l s h p = (p, tt)
steps_push [] (x ∷ ss) l s h p = absurd h
steps_push (y ∷ ls) [] l s h p = absurd h
steps_push (y ∷ ls) (x ∷ ss) l s h p = (h.0, steps_push ls ss l s h.1 p)
