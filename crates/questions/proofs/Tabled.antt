-- Node values over the input columns as tables: row k of an edge's table is what the edge means under assignment k.
use Rattle.std.proofs.Common.{◌≡◌, ℕ, zero, suc, ◌+◌, ◌-◌, ◌<◌, ◌≤◌, Bool, true, false, cond, leb, List, ◌∷◌, ◌++◌, map, length, take, drop, Ok, Err, Result, sym, refl, ap, ◌∙◌, ap₂, arith}
use Rattle.std.specs.List.{range_with_len}
use Rattle.std.proofs.lemmas.List.FromFn.{take-map-range_with_len, length-map-range_with_len}
use Rattle.std.proofs.lemmas.Bool.{cond-true, and_parts}
use Rattle.values.specs.Algebra.{BooleanAlgebra}
use Rattle.values.specs.declared.block.Block.{Block}
use Rattle.values.specs.declared.cofactors.Cofactors.{Cofactors}
use Rattle.values.specs.Rows.{table_algebra, table_rows}
use Rattle.values.specs.Columns.{table_column}
use Rattle.rules.specs.declared.edge.Edge.{Edge}
use Rattle.rules.specs.Edges.{node}
use Rattle.rules.specs.Meaning.{means}
use Rattle.graph_model.specs.declared.refusal.Refusal.{Refusal}
use Rattle.graph_model.specs.declared.refusal.Refusal.TheVariants.{Values}
use Rattle.graph_model.specs.Graphs.{State, nodes, at, grown, node_values}
use Rattle.graph_model.proofs.Meanings.{means_at}
use Rattle.graph_model.proofs.Requests.{values_length}
use Rattle.questions.specs.Assignments.{assignment}
use Rattle.questions.specs.Evaluation.{assigned, suits, evaluation, evaluated}
use Rattle.questions.specs.Tabulation.{node_tables, edge_table}
use Rattle.questions.proofs.Filled.{roots_are}
use Rattle.questions.proofs.Homs.{meaning_rows}
use Rattle.questions.proofs.Valuations.{at_left}

module _ {V : Type 0} (f : ℕ → V) where
  -- counted from 1 instead of from 0
  shifted : (a n : ℕ) → map (λ j. f (j - 1)) (range_with_len (a + 1) n) ≡ map f (range_with_len a n)
  shifted a zero = refl
  shifted a (suc n) = let e : a + 1 - 1 ≡ a = omega arith in ap₂ (λ x xs. x ∷ xs) (ap f e) (shifted (a + 1) n)

  pub first_columns : (w n m : ℕ) (cols : List V) → cols ≡ map f (range_with_len 0 w) → m ≡ n → n ≤ w → take m cols ≡ map f (range_with_len 0 n)
  first_columns w n m cols e q h = ap₂ take q e ∙ take-map-range_with_len f 0 w n h

  pub assigned_columns : (k : BooleanAlgebra V) (s : State) (ins : List V) → ins ≡ map f (range_with_len 0 s.inputs) → node_values k (assigned k ins) s ≡ node_values k (λ j. f (j - 1)) s
  assigned_columns k s ins e =
      let l : length ins ≡ s.inputs = ap length e ∙ length-map-range_with_len f 0 s.inputs in
      ap (λ vs. grown k vs s.pairs) (roots_are k ins s.inputs l ∙ ap (λ us. k.bottom ∷ us) (e ∙ sym (shifted 0 s.inputs)))

pub edge_tabled : (s : State) (e : Edge) (old : List (Cofactors (Cofactors Block))) → node e < nodes s → means table_algebra (at table_algebra (node_tables s ++ drop (nodes s) old)) e ≡ edge_table s e
edge_tabled s e old h =
    let k = table_algebra in
    means_at k _ (at k (node_tables s)) e (at_left k (node_tables s) (drop (nodes s) old) (node e) (rw (values_length k (λ j. table_column (j - 1)) s) h))
    ∙ meaning_rows table_rows assignment s e

-- what the evaluation over the columns was given and left
pub record Evaluated (s : State) (old last : List (Cofactors (Cofactors Block))) : Type 0 where
  pub room : leb (nodes s) (length old) ≡ true
  pub tables : last ≡ node_tables s ++ drop (nodes s) old

pub evaluated_tables : (s : State) (ins old last : List (Cofactors (Cofactors Block))) (r : Result (Unit {0}) Refusal) (u : Unit {0})
    → ins ≡ map table_column (range_with_len 0 s.inputs) → r ≡ evaluation s (length ins) (length old) → r ≡ Ok u → last ≡ evaluated table_algebra s ins old → Evaluated s old last
evaluated_tables s ins old last r u e a o h =
    let yes : suits s (length ins) (length old) ≡ true = taken (suits s (length ins) (length old)) (sym a ∙ o) in
    record {
      room = (and_parts _ _ yes).1;
      tables = h ∙ cond-true _ _ _ yes ∙ ap (λ vs. vs ++ drop (nodes s) old) (assigned_columns table_column table_algebra s ins e);
    }
  where
    taken : (b : Bool) → cond b (Ok tt) (Err Values) ≡ Ok u → b ≡ true
    taken true q = refl
    taken false q = let z : ◌≡◌ {A = ℕ} 0 1 = cc in absurd (omega arith)
