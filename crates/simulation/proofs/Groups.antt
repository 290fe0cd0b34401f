-- A group of frames: each bit of the outputs' blocks is what the outputs mean under one of them.
use Rattle.std.proofs.Common.{◌≡◌, ℕ, suc, ◌+◌, ◌-◌, ◌<◌, ◌≤◌, Bool, true, List, [], ◌∷◌, ◌++◌, map, length, get_or, drop, sym, refl, ap, ◌∙◌, ap₂, arith, append_assoc, append-nil, Bor}
use mathlib.Core.Path.{fun_ext}
use mathlib.Core.List.{map-map}
use Rattle.std.proofs.lemmas.Bool.{cond-true, and_from, eq-eqb, le-leb}
use Rattle.std.proofs.lemmas.List.{at_drop_more, drop_all, length-map, map-append}
use Rattle.std.proofs.lemmas.List.Concat.{flat_map-append}
use Rattle.values.specs.declared.block.Block.{Block}
use Rattle.values.specs.Bit.{bit_algebra}
use Rattle.values.specs.Blocks.{block_algebra, row}
use Rattle.values.specs.Rows.{block_rows}
use Rattle.rules.specs.declared.edge.Edge.{Edge}
use Rattle.rules.specs.Meaning.{means}
use Rattle.graph_model.specs.Graphs.{State, nodes, at, node_values, meaning}
use Rattle.questions.specs.Evaluation.{assigned, suits, evaluated}
use Rattle.questions.proofs.Homs.{row-meaning}
use Rattle.questions.proofs.Tabled.{assigned_columns}
use Rattle.simulation.specs.Columns.{shown, frame_column, frame_columns}
use Rattle.simulation.specs.Answers.{answer_line, row_lines, output_values, given, output_bits, answer_text}
use Rattle.simulation.proofs.Packed.{shown_at}

-- one line more, of frame i
pub line_more : (bs : List Block) (ls : List (Bor (List ℕ))) (i r : ℕ) (d : Bor (List ℕ)) (old new all : List ℕ) → i < length ls → r ≡ i → new ≡ old ++ answer_line (get_or ls i d).now (map (row r) bs)
    → old ++ row_lines bs i (drop i (shown ls)) ≡ all → new ++ row_lines bs (i + 1) (drop (i + 1) (shown ls)) ≡ all
line_more bs ls i r d old new all h n e before =
    let fs = shown ls in
    let rest = row_lines bs (i + 1) (drop (i + 1) fs) in
    let line : answer_line (get_or ls i d).now (map (row r) bs) ≡ answer_line (get_or fs i []) (map (row i) bs) = ap₂ (λ f m. answer_line f (map (row m) bs)) (sym (shown_at ls i d h)) n in
    let here : row_lines bs i (drop i fs) ≡ answer_line (get_or fs i []) (map (row i) bs) ++ rest = at_drop_more (row_lines bs i) fs i [] (omega (arith, length-map ls (λ (l : Bor (List ℕ)). l.now))) in
    ap (λ z. z ++ rest) (e ∙ ap (λ z. old ++ z) line) ∙ append_assoc old (answer_line (get_or fs i []) (map (row i) bs)) rest ∙ ap (λ z. old ++ z) (sym here) ∙ before

-- frame i's bit of each output, as a row of the values over the columns of a group
module _ (s : State) (os : List Edge) (fs : List (List ℕ)) where
  abbrev frame_bits : ℕ → ℕ → Bool
  frame_bits i = given (get_or fs i [])

  pub column_values : (cols old vs : List Block) → length cols ≡ s.inputs → cols ≡ frame_columns fs (length cols) → length old ≡ nodes s → vs ≡ evaluated block_algebra s cols old → vs ≡ node_values block_algebra (λ j. frame_column fs (j - 1)) s
  column_values cols old vs n c m e =
      let yes : suits s (length cols) (length old) ≡ true = and_from _ _ (eq-eqb _ _ n) (le-leb _ _ (omega arith)) in
      let k = block_algebra in
      e ∙ cond-true _ _ _ yes
      ∙ ap (λ z. node_values k (assigned k cols) s ++ z) (drop_all (nodes s) old (omega arith))
      ∙ append-nil (node_values k (assigned k cols) s)
      ∙ assigned_columns (frame_column fs) k s cols (c ∙ ap (frame_columns fs) n)

  row_bit : (i : ℕ) → i < 64 → (e : Edge) → row i (meaning block_algebra (λ j. frame_column fs (j - 1)) s e) ≡ meaning bit_algebra (given (get_or fs i [])) s e
  row_bit i h e = row-meaning block_rows frame_bits s e i h

  row_bits : (vs : List Block) → vs ≡ node_values block_algebra (λ j. frame_column fs (j - 1)) s → (i : ℕ) → i < 64 → map (row i) (output_values vs os) ≡ output_bits s os (get_or fs i [])
  row_bits vs e i h =
      map-map (row i) (means block_algebra (at block_algebra vs)) os
      ∙ ap (λ f. map f os) (fun_ext (λ x. ap (λ z. row i (means block_algebra (at block_algebra z) x)) e ∙ row_bit i h x))

rows_answer : (s : State) (os : List Edge) (bs : List Block) (i : ℕ) (fs : List (List ℕ)) → ((k : ℕ) → k < length fs → map (row (i + k)) bs ≡ output_bits s os (get_or fs k [])) → row_lines bs i fs ≡ answer_text s os fs
rows_answer s os bs i [] h = refl
rows_answer s os bs i (f ∷ fs) h =
    let z : i ≡ i + 0 = omega arith in
    ap₂ (λ x y. answer_line f x ++ y) (ap (λ n. map (row n) bs) z ∙ h 0 (omega arith))
    (rows_answer s os bs (i + 1) fs (λ k l. let n : i + 1 + k ≡ i + suc k = omega arith in ap (λ m. map (row m) bs) n ∙ h (suc k) (omega arith)))

-- the lines of a group are the answers to its frames
pub group_answers : (s : State) (os : List Edge) (fs : List (List ℕ)) (cols old vs bs : List Block) → length fs ≤ 64 → length cols ≡ s.inputs → cols ≡ frame_columns fs (length cols) → length old ≡ nodes s → vs ≡ evaluated block_algebra s cols old
    → bs ≡ output_values vs os → row_lines bs 0 fs ≡ answer_text s os fs
group_answers s os fs cols old vs bs few n c m e b =
    ap (λ z. row_lines z 0 fs) b
    ∙ rows_answer s os (output_values vs os) 0 fs (λ k l. let z : 0 + k ≡ k = omega arith in ap (λ j. map (row j) (output_values vs os)) z ∙ row_bits s os fs vs (column_values s os fs cols old vs n c m e) k (omega arith))

-- and the text after it, with the answers that are left, is the text before it with all of them
pub group_more : (s : State) (os : List Edge) (all group rest : List (Bor (List ℕ))) (old new lines whole : List ℕ) → all ≡ group ++ rest → new ≡ old ++ lines → lines ≡ answer_text s os (shown group)
    → old ++ answer_text s os (shown all) ≡ whole → new ++ answer_text s os (shown rest) ≡ whole
group_more s os all group rest old new lines whole cut e is before =
    let A : List (List ℕ) → List ℕ = answer_text s os in
    let split : A (shown all) ≡ A (shown group) ++ A (shown rest) =
    ap (λ z. A (shown z)) cut ∙ ap A (map-append (λ (l : Bor (List ℕ)). l.now) group rest) ∙ flat_map-append (λ f. answer_line f (output_bits s os f)) (shown group) (shown rest) in
    ap (λ z. z ++ A (shown rest)) (e ∙ ap (λ z. old ++ z) is) ∙ append_assoc old (A (shown group)) (A (shown rest)) ∙ ap (λ z. old ++ z) (sym split) ∙ before
