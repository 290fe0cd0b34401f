-- The lines that answer, with their ends.
-- Each text is written out, as docs/PROGRAMS.md has it.
use Rattle.std.specs.Prelude.{Option, ℕ, ◌+◌, ◌-◌, ◌*◌, Bool, List, [], ◌∷◌, ◌++◌, map, take, codes, decimal, Ok, Err, Some, None, if◌then◌else◌}
use Rattle.std.specs.List.{range_with_len}
use Rattle.std.specs.Char.{digit_char}
use Rattle.values.specs.declared.block.Block.{Block}
use Rattle.values.specs.declared.cofactors.Cofactors.{Cofactors}
use Rattle.values.specs.Rows.{table_rows}
use Rattle.rules.specs.declared.edge.Edge.{Edge}
use Rattle.rules.specs.declared.pair.Pair.{Pair}
use Rattle.graph_model.specs.Refusals.{refusal_number}
use Rattle.aiger_check.specs.Refusals.{fault_number, fault_line}
use Rattle.history_model.specs.Histories.{Listed, bits, Told, anded, applied, read, written, valued, compared, tabulated, paired}
use Rattle.request_lines.specs.Lines.{edges_text, bit_digit}

abbrev pub edge_text : Edge → ℕ → List ℕ
edge_text e n = codes "edge " ++ (decimal e.0 ++ (codes " added " ++ (decimal n ++ codes "\n")))

abbrev pub refused_text : ℕ → List ℕ
refused_text n = codes "refused " ++ (decimal n ++ codes "\n")

-- a refused file, by the number and the line
abbrev pub fault_text : ℕ → ℕ → List ℕ
fault_text n line = codes "refused " ++ (decimal n ++ (codes " line " ++ (decimal line ++ codes "\n")))

-- the smallest assignment at which two edges differ, or that they mean the same
abbrev pub comparison_text : Option ℕ → List ℕ
comparison_text None = codes "same\n"
comparison_text (Some k) = codes "differ " ++ (decimal k ++ codes "\n")

-- a file that was taken: how many nodes were added, and the outputs
abbrev pub read_text : ℕ → List Edge → List ℕ
read_text n es = codes "added " ++ (decimal n ++ (codes " outputs" ++ (edges_text es ++ codes "\n")))

-- the values in bits; only such are asked for
abbrev pub bits_of : {W : Type 0} → Listed W → List Bool
bits_of (bits vs) = vs
bits_of vs = []

abbrev pub values_text : ℕ → List Bool → List ℕ
values_text nodes vs = codes "values " ++ (map bit_digit (take nodes vs) ++ codes "\n")

abbrev pub bit_number : Bool → ℕ
bit_number b = if b then 1 else 0

-- rows 4k to 4k + 3 of a table as a number, the lowest row first
abbrev pub four_rows : Cofactors (Cofactors Block) → ℕ → ℕ
four_rows t k = bit_number (table_rows.row (4 * k) t) + 2 * bit_number (table_rows.row (4 * k + 1) t) + 4 * bit_number (table_rows.row (4 * k + 2) t) + 8 * bit_number (table_rows.row (4 * k + 3) t)

-- 64 hexadecimal digits, row 255 first
abbrev pub table_digits : Cofactors (Cofactors Block) → List ℕ
table_digits t = map (λ j. digit_char (four_rows t (63 - j))) (range_with_len 0 64)

-- the larger edge first
abbrev pub pair_text : Pair → List ℕ
pair_text p = decimal p.larger.0 ++ (44 ∷ decimal p.smaller.0)

-- a space before each pair
abbrev pub spaced_pairs : List Pair → List ℕ
spaced_pairs [] = []
spaced_pairs (p ∷ ps) = 32 ∷ (pair_text p ++ spaced_pairs ps)

-- a space between the pairs
abbrev pub pairs_text : List Pair → List ℕ
pairs_text [] = codes "\n"
pairs_text (p ∷ ps) = pair_text p ++ (spaced_pairs ps ++ codes "\n")

-- the answer's line, in a graph of so many nodes; a written circuit is its own text, with its last line's end
abbrev pub answer_text : {W : Type 0} → ℕ → Told W → List ℕ
answer_text nodes (anded (Ok a)) = edge_text a.0 (bit_number a.1)
answer_text nodes (anded (Err c)) = refused_text (refusal_number c)
answer_text nodes (applied (Ok a)) = edge_text a.0 a.1
answer_text nodes (applied (Err c)) = refused_text (refusal_number c)
answer_text nodes (read (Ok n) map outputs) = read_text n outputs
answer_text nodes (read (Err f) map outputs) = fault_text (fault_number f) (fault_line f)
answer_text nodes (written (Ok n) text) = take n text
answer_text nodes (written (Err c) text) = refused_text (refusal_number c)
answer_text nodes (valued (Ok u) vs) = values_text nodes (bits_of vs)
answer_text nodes (valued (Err c) vs) = refused_text (refusal_number c)
answer_text nodes (compared (Ok c) vs) = comparison_text c
answer_text nodes (compared (Err c) vs) = refused_text (refusal_number c)
answer_text nodes (tabulated (Ok u) t vs) = table_digits t ++ codes "\n"
answer_text nodes (tabulated (Err c) t vs) = refused_text (refusal_number c)
answer_text nodes (paired ps) = pairs_text ps

-- what a line that says nothing is answered, by its number
abbrev pub misread_text : ℕ → List ℕ
misread_text k = codes "line " ++ (decimal k ++ codes " not understood\n")
