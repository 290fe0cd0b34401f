-- The text that the lines of a graph are answered.
-- The text is that of the answers in order.
use Rattle.std.specs.Prelude.{◌≡◌, ℕ, ◌+◌, ◌≤◌, List, [], ◌∷◌, ◌++◌, min}
use Rattle.std.specs.List.{AllByRecursion}
use Rattle.values.specs.Algebra.{BooleanAlgebra}
use Rattle.rules.specs.RuleLists.{by_rules}
use Rattle.rulesets.specs.Levels.{level_rules}
use Rattle.graph_model.specs.Graphs.{State, nodes}
use Rattle.history_model.specs.declared.request.Request.{Request}
use Rattle.history_model.specs.Histories.{Told, Moment, new_world}
use Rattle.history_model.specs.Law.{Ran}
use Rattle.request_lines.specs.declared.line.Opening.{Opening}
use Rattle.request_scripts.specs.declared.step.Step.{Step}
use Rattle.request_scripts.specs.declared.step.Step.TheVariants.{Misread}
use Rattle.answer_lines.specs.Answers.{answer_text, misread_text}
use Rattle.request_scripts.specs.Counts.{NodesCounted, HasRoom}
use Rattle.request_scripts.specs.Sizes.{size_after}
use Rattle.request_scripts.specs.Steps.{Asks}

-- the lines of the answers in order, and those of lines that say nothing in their places, in a graph with so many inputs and of n nodes so far
abbrev pub script_text : {W : Type 0} → ℕ → ℕ → ℕ → List Step → List (Told W) → List ℕ
script_text {W = W} inputs limit n [] answers = []
script_text {W = W} inputs limit n (Misread k ∷ ss) answers = misread_text k ++ script_text {W = W} inputs limit n ss answers
script_text {W = W} inputs limit n (s ∷ ss) [] = script_text {W = W} inputs limit n ss []
script_text {W = W} inputs limit n (s ∷ ss) (a ∷ answers) = answer_text (inputs + 1 + n) a ++ script_text {W = W} inputs limit (size_after limit n a) ss answers

-- the steps' requests were run as one history of a new graph with room for `limit` pairs, and the text is that of its answers;
-- the law speaks of any Boolean algebra k, and j is that of evaluations that no line asks for
pub record Played {V W : Type 0} (k : BooleanAlgebra V) (j : BooleanAlgebra W) (o : Opening) (steps : List Step) (limit max_edge : ℕ) (text : List ℕ) : Type 0 where
  pub requests : List (Request W)
  pub answers : List (Told W)
  pub graph : State
  pub asks : Asks o 0 steps requests
  pub ran : Ran k j (by_rules (level_rules o.level)) (new_world o.inputs limit max_edge) requests answers graph
  -- so each answer is told with the graph's own number of nodes
  pub counted : NodesCounted (min o.inputs 4096) limit 0 ran.moments
  -- and in a store with no more room than the line names, each question's list has a place for each of them
  pub roomy : limit ≤ o.records → AllByRecursion (λ (m : Moment W). HasRoom m.request (nodes m.before.graph)) ran.moments
  pub told : text ≡ script_text (min o.inputs 4096) limit 0 steps answers
