-- The outputs, from literals to edges; and the lines of a taken file.
use Rattle.std.proofs.Common.{◌≡◌, ℕ, ◌+◌, ◌-◌, ◌<◌, ◌≤◌, List, [], ◌∷◌, ◌++◌, map, length, get_or, take, drop, set, sym, ap, ◌∙◌, ⊎_elim, append_assoc, arith, length-drop}
use Rattle.std.proofs.lemmas.List.{drop_more, set_at, get_or_at, length-map, length-take-le, map_more, get_or_past, get_or-map, get_or-take, get_or-drop, ext_get_or}
use Rattle.std.proofs.lemmas.Bool.{cases_lt, cases_eq}
use Rattle.rules.specs.declared.edge.Edge.{Edge}
use Rattle.rules.specs.Edges.{edge}
use Rattle.aiger_lines.specs.declared.number.DigitFault.TheVariants.{Other}
use Rattle.aiger_lines.specs.declared.fields.Header.{Header}
use Rattle.aiger_lines.proofs.Same.{has_lacks}
use Rattle.aiger_check.specs.Text.{lines}
use Rattle.aiger_check.specs.Circuits.{Item, numbers, ends, Begins, nothing}
use Rattle.aiger_check.proofs.Noting.{missing}
use Rattle.aiger_check.specs.Files.{Taken}

module _ (f : Edge → Edge) (xs : List Edge) where
  long : (j : ℕ) → j ≤ length xs → length (map f (take j xs)) ≡ j
  long j l = length-map (take j xs) f ∙ length-take-le j xs l

  pub fill_at : (j : ℕ) → j < length xs → get_or (map f (take j xs) ++ drop j xs) j (edge 0) ≡ get_or xs j (edge 0)
  fill_at j l = ap (λ d. get_or (map f (take j xs) ++ d) j (edge 0)) (drop_more xs j (edge 0) l) ∙ get_or_at (map f (take j xs)) (get_or xs j (edge 0)) (drop (j + 1) xs) (edge 0) j (long j (omega arith))

  pub fill_more : (j : ℕ) → j < length xs → set (map f (take j xs) ++ drop j xs) j (f (get_or xs j (edge 0))) ≡ map f (take (j + 1) xs) ++ drop (j + 1) xs
  fill_more j l =
      ap (λ d. set (map f (take j xs) ++ d) j (f (get_or xs j (edge 0)))) (drop_more xs j (edge 0) l)
      ∙ set_at (map f (take j xs)) (get_or xs j (edge 0)) (drop (j + 1) xs) (f (get_or xs j (edge 0))) j (long j (omega arith))
      ∙ sym (append_assoc (map f (take j xs)) (f (get_or xs j (edge 0)) ∷ []) (drop (j + 1) xs))
      ∙ ap (λ ys. ys ++ drop (j + 1) xs) (sym (map_more f xs j (edge 0) l))

-- the first n places hold what items i, i + 1, .. say, each by f
pub picked : (g : Item → Edge) (f : Edge → Edge) (xs : List Edge) (is : List Item) (i n : ℕ) → n ≤ length xs → i + n ≤ length is → ((j : ℕ) → j < n → f (get_or xs j (edge 0)) ≡ g (get_or is (i + j) nothing)) → map f (take n xs) ≡ map g (take n (drop i is))
picked g f xs is i n room many each =
    let wide : n ≤ length (drop i is) = omega (arith, length-drop i is) in
    ext_get_or (edge 0) (map f (take n xs)) (map g (take n (drop i is)))
    (long f xs n room ∙ sym (length-map (take n (drop i is)) g ∙ length-take-le n (drop i is) wide))
    (λ j l.
    let below : j < n = omega (arith, long f xs n room) in
    get_or-map f (take n xs) j (edge 0) (edge 0) (omega (arith, length-take-le n xs room))
    ∙ ap f (get_or-take n xs j (edge 0) below)
    ∙ each j below
    ∙ ap g (sym (get_or-take n (drop i is) j nothing below ∙ get_or-drop i is j nothing))
    ∙ sym (get_or-map g (take n (drop i is)) j nothing (edge 0) (omega (arith, length-take-le n (drop i is) wide))))

pub present : (h : Header) (ls : List (List ℕ)) (is : List Item) → Begins h ls is → (k : ℕ) → k < length is → length ls ≤ k + 1 → ⊥
present h ls is b k l past =
    has_lacks (ends h k) (get_or ls (1 + k) []) (numbers (get_or is k nothing)) Other (b k l).says.reads (missing h k (get_or ls (1 + k) []) (get_or_past ls (1 + k) [] (omega arith)))

-- below the last line there is one to read
pub more_lines : (h : Header) (ls : List (List ℕ)) (is : List Item) → Begins h ls is → (k : ℕ) → k < length is → k + 1 < length ls
more_lines h ls is b k l = ⊎_elim (λ less. less) (λ past. absurd (present h ls is b k l past)) (cases_lt (k + 1) (length ls))

pub enough : (bs : List ℕ) (graph places outs : ℕ) (h : Header) (is : List Item) → Taken bs graph places outs h is → h.inputs + h.outputs + 1 ≤ length (lines bs)
enough bs graph places outs h is t =
    ⊎_elim
    (λ less. absurd (⊎_elim
    (λ none. omega (arith, ap length (sym (get_or_past (lines bs) 0 [] (omega arith)) ∙ t.opens.header.starts)))
    (λ some. present h (lines bs) is t.whole.begins (length (lines bs) - 1) (omega (arith, t.whole.count)) (omega arith))
    (cases_eq (length (lines bs)) 0)))
    (λ more. more)
    (cases_lt (length (lines bs)) (h.inputs + h.outputs + 1))
