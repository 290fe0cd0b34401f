-- Worked answers, and their lines.
-- They are lines that can be checked against docs/PROGRAMS.md, and each is proved by computing it.
use Rattle.std.specs.Prelude.{◌≡◌, ℕ, ◌^◌, Bool, true, false, List, [], ◌∷◌, codes, Some, None, Ok, Err}
use Rattle.std.specs.List.{AllByRecursion}
use Rattle.std.proofs.Common.{arith}
use Rattle.values.specs.Blocks.{block_algebra}
use Rattle.values.specs.declared.block.Block.{Block}
use Rattle.values.specs.declared.cofactors.Cofactors.{Cofactors}
use Rattle.rules.specs.Edges.{edge}
use Rattle.rules.specs.Pairs.{pair_of}
use Rattle.graph_model.specs.declared.refusal.Refusal.TheVariants.{NoNode}
use Rattle.aiger_check.specs.declared.faults.CircuitFault.TheVariants.{NoHeader}
use Rattle.history_model.specs.Histories.{Told, anded, applied, read, written, valued, compared, tabulated, paired, bits}
use Rattle.answer_lines.specs.Answers.{answer_text}

-- the table with rows 3 and 255
abbrev pub two_rows : Cofactors (Cofactors Block)
two_rows = record {
  low = record { low = record { bits = 2 ^ 3; fits = omega arith }; high = block_algebra.bottom };
  high = record { low = block_algebra.bottom; high = record { bits = 2 ^ 63; fits = omega arith } };
}

-- answers in a graph of four nodes, and their lines
abbrev pub answered_lines : List (Told Bool × List ℕ)
answered_lines =
    (anded (Ok (edge 6, true)), codes "edge 6 added 1\n")
    ∷ (applied (Ok (edge 13, 3)), codes "edge 13 added 3\n")
    ∷ (anded (Err NoNode), codes "refused 12\n")
    ∷ (read (Ok 4) [] (edge 6 ∷ edge 15 ∷ []), codes "added 4 outputs 6 15\n")
    ∷ (read (Err NoHeader) [] [], codes "refused 2 line 1\n")
    ∷ (written (Ok 4) (codes "aag  "), codes "aag ")
    ∷ (valued (Ok tt) (bits (false ∷ true ∷ false ∷ true ∷ true ∷ [])), codes "values 0101\n")
    ∷ (compared (Ok None) [], codes "same\n")
    ∷ (compared (Ok (Some 2)) [], codes "differ 2\n")
    ∷ (tabulated (Ok tt) two_rows [], codes "8000000000000000000000000000000000000000000000000000000000000008\n")
    ∷ (paired (pair_of (edge 2) (edge 4) ∷ pair_of (edge 5) (edge 3) ∷ []), codes "4,2 5,3\n")
    ∷ (paired [], codes "\n")
    ∷ []

pub record Worked : Type 0 where
  pub answered : AllByRecursion (λ e. answer_text 4 e.0 ≡ e.1) answered_lines
