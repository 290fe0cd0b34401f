-- The text as a whole: its parts, its length, and the edges that it names.
use Rattle.std.proofs.Common.{◌≡◌, ℕ, zero, suc, ◌+◌, ◌*◌, ◌/◌, ◌%◌, ◌^◌, ◌<◌, ◌≤◌, true, false, ◌&&◌, eqb, ltb, List, [], ◌∷◌, ◌++◌, length, Ok, Err, decimal, Result, sym, refl, ap, ◌∙◌, arith, length-append}
use Rattle.std.specs.List.{flat_map, list_all}
use Rattle.std.specs.Fmt.{digits, digit_glyph, digits_onto}
use Rattle.std.proofs.lemmas.List.{length-map}
use Rattle.std.proofs.lemmas.Bool.{le-ltb, lt-ltb, cond-true, cond-false, cond_both}
use Rattle.rules.specs.declared.edge.Edge.{Edge}
use Rattle.rules.specs.declared.pair.Pair.{Pair}
use Rattle.rules.specs.Edges.{node}
use Rattle.graph_model.specs.declared.refusal.Refusal.{Refusal}
use Rattle.graph_model.specs.declared.refusal.Refusal.TheVariants.{TooManyOutputs, NoNode, TextTooLong}
use Rattle.graph_model.specs.Graphs.{State, nodes}
use Rattle.aiger_check.specs.Circuits.{Item, input, output, gate}
use Rattle.aiger_write.specs.Texts.{line_text, item_text, header_text, inputs_of, outputs_of, gates_of, items, header_of}
use Rattle.aiger_write.specs.Writing.{text_of, all_inside, write_of, left, written}
use Rattle.aiger_write.proofs.Items.{inputs_left, text_parts}

pub list_all-inside : (s : State) (n : ℕ) (es : List Edge) → n ≡ nodes s → list_all (λ e. ltb (node e) n) es ≡ all_inside s es
list_all-inside s n [] e = refl
list_all-inside s n (x ∷ es) e = λ i. ltb (node x) (e i) && list_all-inside s n es e i

spelled_short : (k n : ℕ) (acc : List ℕ) → length (digits_onto k 10 false n acc) ≤ k + length acc
spelled_short zero n acc = omega arith
spelled_short (suc k) n acc =
    cond_both (eqb (n / 10) 0) (digit_glyph false (n % 10) ∷ acc) (digits_onto k 10 false (n / 10) (digit_glyph false (n % 10) ∷ acc)) (λ ds. length ds ≤ suc k + length acc)
    (λ _. omega arith) (λ _. omega (arith, spelled_short k (n / 10) (digit_glyph false (n % 10) ∷ acc)))

decimal_short : (n : ℕ) → length (decimal n) ≤ 64
unfolding digits
decimal_short n = omega (arith, spelled_short 64 n [])

pub line_short : (ns : List ℕ) → length (line_text ns) ≤ 65 * length ns
unfolding line_text
line_short [] = omega arith
line_short (v ∷ []) = omega (arith, length-append (decimal v) (10 ∷ []), decimal_short v)
line_short (v ∷ w ∷ vs) = omega (arith, length-append (decimal v) (32 ∷ line_text (w ∷ vs)), decimal_short v, line_short (w ∷ vs))

item_short : (i : Item) → length (item_text i) ≤ 195
item_short (input v) = omega (arith, line_short (v ∷ []))
item_short (output v) = omega (arith, line_short (v ∷ []))
item_short (gate a b c) = omega (arith, line_short (a ∷ b ∷ c ∷ []))

items_short : (is : List Item) → length (flat_map item_text is) ≤ 195 * length is
items_short [] = omega arith
items_short (i ∷ is) = omega (arith, length-append (item_text i) (flat_map item_text is), item_short i, items_short is)

pub length_inputs : (j n : ℕ) → length (inputs_of j n) ≡ n
length_inputs j zero = refl
length_inputs j (suc n) = ap suc (length_inputs (j + 1) n)

pub length_gates : (p : ℕ) (ps : List Pair) → length (gates_of p ps) ≡ length ps
length_gates p [] = refl
length_gates p (x ∷ ps) = ap suc (length_gates (p + 1) ps)

pub length-items : (n : ℕ) (ps : List Pair) (os : List Edge) → length (items n ps os) ≡ n + length os + length ps
unfolding items
length-items n ps os = omega (arith, length-append (inputs_of 0 n) (outputs_of os ++ gates_of (n + 1) ps), length-append (outputs_of os) (gates_of (n + 1) ps), length_inputs 0 n, length-map os (λ e. output e.0), length_gates (n + 1) ps)

-- however large its edges are, a text's length can be counted
pub text_short : (s : State) (os : List Edge) → s.inputs ≤ 4096 → length os ≤ 4096 → length s.pairs ≤ 1000000 → length (text_of s os) < 2 ^ 60
unfolding text_of
text_short s os a b c =
    let h = header_of s.inputs s.pairs os in
    omega (
      arith,
      length-append (header_text h) (flat_map item_text (items s.inputs s.pairs os)),
      line_short (h.max ∷ h.inputs ∷ h.latches ∷ h.outputs ∷ h.ands ∷ []),
      items_short (items s.inputs s.pairs os),
      length-items s.inputs s.pairs os,
    )

-- so what is left after the header ends before
pub lines_short : (s : State) (os : List Edge) (n a : ℕ) → n ≡ s.inputs → a ≡ length s.pairs → n ≤ 4096 → a ≤ 1000000 → length os ≤ 4096
    → 4 + length (line_text ((n + a) ∷ n ∷ 0 ∷ length os ∷ a ∷ [])) + length (inputs_left s os 0) < 2 ^ 60
lines_short s os n a ins ands few most outs =
    omega (arith, text_short s os (omega arith) outs (omega arith), ap length (text_parts s os n a ins ands), length-append (header_text (record { max = n + a; inputs = n; latches = 0; outputs = length os; ands = a })) (inputs_left s os 0))

module _ (s : State) (os : List Edge) (buffer : List ℕ) where
  pub writes_many : 4096 < length os → write_of s os buffer ≡ Err TooManyOutputs
  unfolding write_of
  writes_many many = cond-true (ltb 4096 (length os)) _ _ (lt-ltb 4096 (length os) many)

  pub writes_outside : length os ≤ 4096 → all_inside s os ≡ false → write_of s os buffer ≡ Err NoNode
  unfolding write_of
  writes_outside few out = cond-false (ltb 4096 (length os)) _ _ (le-ltb 4096 (length os) few) ∙ cond-false (all_inside s os) _ _ out

  pub writes_long : length os ≤ 4096 → all_inside s os ≡ true → length buffer < length (text_of s os) → write_of s os buffer ≡ Err TextTooLong
  unfolding write_of
  writes_long few all long = cond-false (ltb 4096 (length os)) _ _ (le-ltb 4096 (length os) few) ∙ cond-true (all_inside s os) _ _ all ∙ cond-true (ltb (length buffer) (length (text_of s os))) _ _ (lt-ltb (length buffer) (length (text_of s os)) long)

  pub writes : length os ≤ 4096 → all_inside s os ≡ true → length (text_of s os) ≤ length buffer → write_of s os buffer ≡ Ok (length (text_of s os))
  unfolding write_of
  writes few all short = cond-false (ltb 4096 (length os)) _ _ (le-ltb 4096 (length os) few) ∙ cond-true (all_inside s os) _ _ all ∙ cond-false (ltb (length buffer) (length (text_of s os))) _ _ (le-ltb (length buffer) (length (text_of s os)) short)

  pub leaves : {r : Result ℕ Refusal} → write_of s os buffer ≡ r → left (text_of s os) buffer r ≡ written s os buffer
  leaves e = ap (left (text_of s os) buffer) (sym e)
