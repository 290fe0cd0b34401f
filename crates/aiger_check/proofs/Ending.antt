-- After the last line: the outputs, and what the pass tells as a whole.
use Rattle.std.proofs.Common.{◌≡◌, ℕ, ◌+◌, ◌/◌, ◌<◌, ◌≤◌, List, length, get_or, drop, Ok, Err, Result, sym, refl, ap, ◌∙◌, subst, arith, length-set}
use Rattle.rules.specs.declared.edge.Edge.{Edge}
use Rattle.rules.specs.Edges.{false_edge}
use Rattle.aiger_lines.specs.declared.fields.Header.{Header}
use Rattle.aiger_check.specs.declared.faults.AtLine.{AtLine}
use Rattle.aiger_check.specs.Circuits.{Item, total, Defined, Begins, nothing}
use Rattle.aiger_check.specs.Checks.{Small, Noted, notes, puts}
use Rattle.aiger_check.proofs.Noting.{from_items, to_items}
use Rattle.aiger_check.specs.Names.{TailGood}
use Rattle.aiger_check.specs.Files.{LinesFault, in_output, literal, OutputDefined, marked}
use Rattle.aiger_check.specs.Calls.{opened, OutputsChecked, SectionsChecked}
use Rattle.aiger_check.proofs.Keeping.{kept_map, kept_outputs, output_at, output_top, starts, drop-opened, length_marked}

pub length-opened : (max : ℕ) (m : List Edge) → max < length m → length (opened max m) ≡ length m
length-opened max m l = length-set (marked (max + 1) m) 0 false_edge ∙ length_marked (max + 1) m (omega arith)

module _ (h : Header) (ls : List (List ℕ)) (m o : List Edge) (small : Small h) (room : h.max < length m) (outs : h.outputs ≤ length o) (is : List Item) (begins : Begins h ls is) (m' o' : List Edge) (em : m' ≡ notes 0 is (opened h.max m)) (eo : o' ≡ puts h.inputs 0 is o) where
  pub kept_m : drop (h.max + 1) m' ≡ drop (h.max + 1) m
  kept_m = ap (drop (h.max + 1)) em ∙ kept_map h ls is begins (opened h.max m) ∙ drop-opened h.max m

  pub kept_o : drop h.outputs o' ≡ drop h.outputs o
  kept_o = ap (drop h.outputs) eo ∙ kept_outputs h ls is begins o

  module _ (count : length is ≡ total h) where
    many : h.inputs + h.outputs ≤ length is
    many = omega arith

    pub here : (j : ℕ) → j < h.outputs → (get_or o' j false_edge).0 / 2 ≡ literal (get_or is (h.inputs + j) nothing) / 2
    here j l = ap (λ z. (get_or z j false_edge).0 / 2) eo ∙ ap (λ v. v.0 / 2) (output_at h ls is begins o j many l outs)

    pub inside : (j : ℕ) → j < h.outputs → (get_or o' j false_edge).0 / 2 ≤ h.max
    inside j l = omega (arith, here j l, output_top h ls is begins j many l)

    to : (x : ℕ) → x ≤ h.max → Noted m' x → Defined is x
    to = to_items h ls (opened h.max m) (starts h.max m room) (omega (arith, length-opened h.max m room)) is begins (total h) count (omega (arith, small.inputs, small.outputs, small.ands)) m' em

    from : (x : ℕ) → x ≤ h.max → Defined is x → Noted m' x
    from = from_items h ls (opened h.max m) (starts h.max m room) (omega (arith, length-opened h.max m room)) is begins (total h) count (omega (arith, small.inputs, small.outputs, small.ands)) m' em

    is_defined : (j : ℕ) → j < h.outputs → Noted m' ((get_or o' j false_edge).0 / 2) → OutputDefined h is j
    is_defined j l n = subst (Defined is) (here j l) (to ((get_or o' j false_edge).0 / 2) (inside j l) n)

    pub ended : TailGood h ls (total h + 1) → (r : Result (Unit {0}) AtLine) → OutputsChecked h m' o' r → SectionsChecked h ls m o r m' o'
    ended tail (Ok u) c = (is, record { count = count; begins = begins; tail = tail }, (λ j l. is_defined j l (c j l)), em, eo)
    ended tail (Err f) (j, l, before, bad, e) =
        (subst (LinesFault h ls) (sym e) (in_output is j (h.inputs + j + 2) (record { count = count; begins = begins; tail = tail }) l (λ i k. is_defined i (omega arith) (before i k)) (λ d. from _ (inside j l) (subst (Defined is) (sym (here j l)) d) bad) refl), kept_m, kept_o)
