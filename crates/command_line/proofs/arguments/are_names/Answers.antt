use Rattle.std.proofs.Common.{arith, rules, ◌≡◌, true, sym, ap, ◌∙◌, string_bytes, nat_le, length, map as each_of, ◌&&◌}
use Rattle.std.specs.List.{list_all}
use Rattle.std.proofs.lemmas.Bool.{le-leb}
use Rattle.std.proofs.lemmas.List.{length-map}
use Rattle.std.proofs.lemmas.Iterator.{YieldsList-from_slice}
use Rattle.std.proofs.lemmas.Iterator.Search.{all_from_yields_List}
use Rattle.std.proofs.lemmas.List.Folds.{list_all-map}
use Rattle.command_line.specs.Arguments.{is_name}
use Rattle.command_line.proofs.arguments.are_names.Goals as goal

pub returns-then-words-most : goal.returns-then-words-most
returns-then-words-most c =
    let ws = c.args.words.now in
    let few : nat_le (length (each_of string_bytes ws)) c.args.most ≡ true = le-leb _ _ (omega (arith, length-map ws string_bytes, c.if-words-most.true)) in
    all_from_yields_List (λ w. is_name (string_bytes w)) _ _ c.all.result c.all.ensures.ran (YieldsList-from_slice ws cc) (λ x b q k. search rules)
    ∙ sym (list_all-map is_name string_bytes ws)
    ∙ sym (ap (λ b. b && list_all is_name (each_of string_bytes ws)) few)
