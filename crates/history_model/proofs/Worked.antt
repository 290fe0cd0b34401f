-- The worked history, by computation.
use Rattle.std.proofs.Common.{◌≡◌, ℕ, Bool, true, false, List, [], ◌∷◌, ◌++◌, replicate, Ok, Err, codes, sym, refl, subst, inl, arith}
use Rattle.std.specs.Fmt.{digits}
use Rattle.values.specs.Bit.{bit_algebra}
use Rattle.rules.specs.declared.edge.Edge.{Edge}
use Rattle.rules.specs.Meaning.{means}
use Rattle.graph_model.specs.Graphs.{at, grown}
use Rattle.graph_model.specs.Requests.{trivial, stored, window, settle, and_of}
use Rattle.graph_model.specs.Operations.{nand_of, apply_of}
use Rattle.aiger_check.specs.declared.faults.CircuitFault.TheVariants.{NoHeader}
use Rattle.aiger_check.specs.Calls.{Checked}
use Rattle.aiger_write.specs.Texts.{line_text, items}
use Rattle.aiger_write.specs.Writing.{text_of, write_of, written as text_written}
use Rattle.history_model.specs.Histories.{undefined, EvaluatesIn, by_bits, asked, operated, loaded, saved, calculated, shown}
use Rattle.history_model.specs.Worked.{Worked, after}

refused : Checked [] 2 (undefined 1) (undefined 2) (Err NoHeader) (undefined 1) (undefined 2)
refused = ((omega arith, λ h at. absurd (let z : ◌≡◌ {A = List ℕ} [] (codes "aag " ++ at.rest) = at.starts in cc)), refl, refl)

pub worked : Worked
unfolding trivial stored window settle and_of nand_of apply_of line_text items text_of write_of at grown means digits
worked = (
  saved refl refl,
  asked refl refl,
  operated refl refl,
  (λ bytes e. loaded (inl (subst (λ z. Checked z 2 (undefined 1) (undefined 2) (Err NoHeader) (undefined 1) (undefined 2)) (sym e) refused, refl)) refl),
  saved refl refl,
  (λ given e. let P : List Edge → Type 0 = λ z. Ok 26 ≡ write_of after.graph z (replicate 26 0) in
      let Q : List Edge → Type 0 = λ z. codes "aag 3 2 0 1 1\n2\n4\n7\n6 4 2\n" ≡ text_written after.graph z (replicate 26 0) in
      saved (subst P (sym e) refl) (subst Q (sym e) refl)),
  (λ inputs e. let P : List Bool → Type 0 = λ z. EvaluatesIn bit_algebra after.graph z 5 (Ok tt) (false ∷ true ∷ false ∷ false ∷ false ∷ []) in
      calculated (by_bits (subst P (sym e) (record { answer = refl; values = refl })))),
  shown refl,
  (λ a b c d e f. refl),
  (λ a b c d e f. refl),
)
