-- Worked lines: the text of requests, and a text as its lines.
-- They are lines that can be checked against docs/PROGRAMS.md, and each is proved by computing it.
use Rattle.std.specs.Prelude.{◌≡◌, ℕ, true, false, List, [], ◌∷◌, codes}
use Rattle.std.specs.List.{AllByRecursion}
use Rattle.rules.specs.Edges.{edge}
use Rattle.rulesets.specs.declared.levels.OptLevel.TheVariants.{Three}
use Rattle.graph_model.specs.declared.operation.Operation.TheVariants.{Or, Implies, Equiv, Xor}
use Rattle.request_lines.specs.Lines.{Said, graph, and, apply, read, evaluate, compare, table, write, pairs, text_of}
use Rattle.request_lines.specs.Split.{lines_of, numbered}

-- requests, and their text
abbrev pub written_lines : List (Said × List ℕ)
written_lines =
    (graph 2 Three 100, codes "graph 2 3 100")
    ∷ (and (edge 2) (edge 5), codes "and 2 5")
    ∷ (apply Or (edge 2) (edge 4), codes "or 2 4")
    ∷ (apply Implies (edge 2) (edge 4), codes "implies 2 4")
    ∷ (apply Equiv (edge 2) (edge 4), codes "equiv 2 4")
    ∷ (apply Xor (edge 2) (edge 4), codes "xor 2 4")
    ∷ (read (codes "half of it.aag"), codes "read half of it.aag")
    ∷ (evaluate (true ∷ false ∷ []), codes "evaluate 10")
    ∷ (evaluate [], codes "evaluate")
    ∷ (compare (edge 6) (edge 7), codes "compare 6 7")
    ∷ (table (edge 6), codes "table 6")
    ∷ (write (edge 6 ∷ edge 15 ∷ []), codes "write 6 15")
    ∷ (write [], codes "write")
    ∷ (pairs, codes "pairs")
    ∷ []

pub record Worked : Type 0 where
  pub lines : AllByRecursion (λ e. text_of e.0 ≡ e.1) written_lines
  pub split : numbered 1 (lines_of (codes "a\n\nb")) ≡ (1, codes "a") ∷ (2, []) ∷ (3, codes "b") ∷ []
