use Rattle.std.proofs.Common.{rules, ◌≡◌, Bool, ◌||◌, List, [], ◌∷◌, refl, sym, ap, ◌∙◌, string_bytes, bytes_eq, codes, map as each_of}
use Rattle.std.specs.List.{list_any}
use Rattle.std.proofs.lemmas.Iterator.{YieldsList-from_slice}
use Rattle.std.proofs.lemmas.Iterator.Search.{any_from_yields_List}
use Rattle.command_line.proofs.arguments.asks_usage.Goals as goal

any_each : {A B : Type 0} (p : B → Bool) (f : A → B) (xs : List A) → list_any p (each_of f xs) ≡ list_any (λ x. p (f x)) xs
any_each p f [] = refl
any_each p f (x ∷ xs) = ap (λ z. p (f x) || z) (any_each p f xs)

pub returns : goal.returns
returns c =
    let ws = c.args.words.now in
    any_from_yields_List (λ w. bytes_eq (string_bytes w) (codes "--help")) _ _ c.any.result c.any.ensures.ran (YieldsList-from_slice ws cc) (λ x b q k. search rules)
    ∙ sym (any_each (λ w. bytes_eq w (codes "--help")) string_bytes ws)
