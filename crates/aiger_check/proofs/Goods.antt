-- The items of a file, each good after those before it, one by one.
use Rattle.std.proofs.Common.{◌≡◌, ℕ, ◌+◌, ◌<◌, List, [], ◌∷◌, ◌++◌, length, get_or, take, sym, ap, ◌∙◌, subst, append_assoc, arith}
use Rattle.std.proofs.lemmas.List.{get_or_at, take_at, length_push, length-append}
use Rattle.aiger_lines.specs.declared.fields.Header.{Header}
use Rattle.aiger_check.specs.Circuits.{Item, Due, Defined, Good, Begins, nothing}

-- items from number n on, after the items before them
abbrev pub Goods : Header → ℕ → List Item → List Item → Type 0
Goods h n before [] = Unit {0}
Goods h n before (i ∷ is) = Good h.max (Defined before) i × Due h n i × Goods h (n + 1) (before ++ (i ∷ [])) is

pub goods_from : (h : Header) (ls : List (List ℕ)) (is : List Item) → Begins h ls is → (rest before : List Item) (n : ℕ) → is ≡ before ++ rest → length before ≡ n → Goods h n before rest
goods_from h ls is b [] before n e l = tt
goods_from h ls is b (i ∷ rest) before n e l =
    let within : n < length is = omega (arith, ap length e, length-append before (i ∷ rest)) in
    let g = b n within in
    let at : get_or is n nothing ≡ i = ap (λ xs. get_or xs n nothing) e ∙ get_or_at before i rest nothing n l in
    let front : take n is ≡ before = ap (take n) e ∙ take_at before (i ∷ rest) n l in (
      subst (λ xs. Good h.max (Defined xs) i) front (subst (Good h.max (Defined (take n is))) at g.good),
      subst (Due h n) at g.says.due,
      goods_from h ls is b rest (before ++ (i ∷ [])) (n + 1) (e ∙ sym (append_assoc before (i ∷ []) rest)) (length_push before i ∙ ap (λ k. k + 1) l),
    )
