-- A worked script: what the lines of a graph with two inputs ask and are answered.
-- It can be checked against docs/PROGRAMS.md, and is proved by computing it.
use Rattle.std.specs.Prelude.{◌≡◌, Bool, true, List, [], ◌∷◌, codes, Some, Ok}
use Rattle.rules.specs.Edges.{edge}
use Rattle.rulesets.specs.declared.levels.OptLevel.TheVariants.{Three}
use Rattle.graph_model.specs.declared.operation.Operation.TheVariants.{Xor}
use Rattle.history_model.specs.declared.request.Request.{Request}
use Rattle.history_model.specs.declared.request.Request.TheVariants as request
use Rattle.history_model.specs.Histories.{Told, anded, applied, valued, compared, bits}
use Rattle.request_lines.specs.declared.line.Opening.{Opening}
use Rattle.request_lines.specs.declared.line.Ask.TheVariants as an_ask
use Rattle.request_scripts.specs.declared.step.Step.{Step}
use Rattle.request_scripts.specs.declared.step.Step.TheVariants.{Ask, Misread}
use Rattle.request_scripts.specs.Steps.{Asks}
use Rattle.request_scripts.specs.Scripts.{script_text}

abbrev pub opening : Opening
opening = record { inputs = 2; level = Three; records = 100 }

-- `compare 2 4`, `and 2 4`, a line that says nothing, `xor 2 4`, `compare 6 7`
abbrev pub steps : List Step
steps =
    Ask (an_ask.Compare (edge 2) (edge 4))
    ∷ Ask (an_ask.And (edge 2) (edge 4))
    ∷ Misread 4
    ∷ Ask (an_ask.Apply Xor (edge 2) (edge 4))
    ∷ Ask (an_ask.Compare (edge 6) (edge 7))
    ∷ []

-- a list has a place for the constant, for each input, and for each node that the requests before it can have added
abbrev pub requests : List (Request Bool)
requests = request.Compare (edge 2) (edge 4) 3 ∷ request.And (edge 2) (edge 4) ∷ request.Apply Xor (edge 2) (edge 4) ∷ request.Compare (edge 6) (edge 7) 7 ∷ []

abbrev pub answers : List (Told Bool)
answers = compared (Ok (Some 1)) [] ∷ anded (Ok (edge 6, true)) ∷ applied (Ok (edge 13, 3)) ∷ valued (Ok tt) (bits (true ∷ true ∷ true ∷ true ∷ true ∷ true ∷ true ∷ true ∷ [])) ∷ []

pub record Worked : Type 0 where
  pub asks : (rs : List (Request Bool)) → Asks opening 0 steps rs → rs ≡ requests
  pub text : script_text 2 100 0 steps answers ≡ codes "differ 1\nedge 6 added 1\nline 4 not understood\nedge 13 added 3\nvalues 1111111\n"
