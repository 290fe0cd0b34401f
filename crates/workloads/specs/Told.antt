-- How the counts of a job are told.
-- Each text is written out.
use Rattle.std.specs.Prelude.{ℕ, List, ◌++◌, codes, decimal, Option, Some, None}
use Rattle.workloads.specs.declared.kind.Kind.{Kind}
use Rattle.workloads.specs.declared.question.Question.{Question}
use Rattle.workloads.specs.declared.told.Counts.{Counts}
use Rattle.workloads.specs.declared.told.Counts.TheVariants.{Circuit, Growth, Evaluation, Comparison}
use Rattle.workloads.specs.Kinds.{name}
use Rattle.workloads.specs.Questions.{compared}

abbrev pub circuit_told : Kind → ℕ → ℕ → ℕ → ℕ → List ℕ
circuit_told k gates len nodes written =
    name k ++ (codes ", circuit of " ++ (decimal gates ++ (codes " gates: " ++ (decimal len ++ (codes " bytes, " ++ (decimal nodes ++ (codes " nodes, " ++ (decimal written ++ codes " bytes written"))))))))

abbrev pub growth_told : Kind → ℕ → ℕ → List ℕ
growth_told k calls nodes = name k ++ (codes ", ANDs of random edges: " ++ (decimal calls ++ (codes " calls, " ++ (decimal nodes ++ codes " nodes"))))

abbrev pub evaluation_told : Kind → ℕ → ℕ → List ℕ
evaluation_told k nodes word = name k ++ (codes ", evaluation by blocks: " ++ (decimal nodes ++ (codes " nodes, XOR of all words " ++ decimal word)))

abbrev pub difference_told : Option ℕ → List ℕ
difference_told None = codes "same"
difference_told (Some a) = codes "differ " ++ decimal a

abbrev pub comparison_told : Kind → Question → ℕ → Option ℕ → List ℕ
comparison_told k q nodes d = name k ++ (codes ", comparison of " ++ (compared q ++ (codes ": " ++ (decimal nodes ++ (codes " nodes, " ++ difference_told d)))))

-- what a job came to
abbrev pub told : Kind → Counts → List ℕ
told k (Circuit gates len nodes written) = circuit_told k gates len nodes written
told k (Growth calls nodes) = growth_told k calls nodes
told k (Evaluation nodes word) = evaluation_told k nodes word
told k (Comparison q nodes d) = comparison_told k q nodes d
