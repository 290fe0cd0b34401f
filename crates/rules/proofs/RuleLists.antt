-- A list of rules replies as the table decides, and is lawful.
use Rattle.std.proofs.Common.{◌≡◌, false, List, [], ◌∷◌, Some, None, Option, unwrap_or, sym, refl, ap, ◌∙◌, subst}
use Rattle.std.specs.Option.{option_or, IfSome}
use Rattle.std.proofs.lemmas.Bool.{false≢true}
use Rattle.std.proofs.lemmas.Option.{none-some}
use Rattle.rules.specs.declared.window.Operand.{Operand}
use Rattle.rules.specs.declared.window.Window.{Window}
use Rattle.rules.specs.declared.window.Reply.{Reply}
use Rattle.rules.specs.declared.window.Reply.TheVariants as reply
use Rattle.rules.specs.declared.rule.Rule.{Rule}
use Rattle.rules.specs.Rules.{rule_reply}
use Rattle.rules.specs.Windows.{related}
use Rattle.rules.specs.Table.{Gives, Unfit, Chosen, Decided}
use Rattle.rules.specs.RuleLists.{by_rules}
use Rattle.rules.specs.Lawful.{Lawful}
use Rattle.rules.proofs.Replies.{reply_gives, gives_reply}
use Rattle.rules.proofs.Related.{gives_meets, straight_related, exchanged_related}
use Rattle.rules.proofs.Meanings.{chosen_means, chosen_known, chosen_lighter}

unfit : (u v : Operand) (rule : Rule) → rule_reply rule u v ≡ None → Unfit u v rule
unfit u v rule e r g = none-some r (sym e ∙ gives_reply g)

pub rules_chosen : (rules : List Rule) (w : Window) → Chosen w rules (by_rules rules w)
rules_chosen [] w = Chosen.none
rules_chosen (rule ∷ rules) w =
    go (rule_reply rule w.larger w.smaller) (rule_reply rule w.smaller w.larger) refl refl
    (reply_gives w.larger w.smaller rule) (reply_gives w.smaller w.larger rule) (rules_chosen rules w)
  where
    go : (o o' : Option Reply) → rule_reply rule w.larger w.smaller ≡ o → rule_reply rule w.smaller w.larger ≡ o' → IfSome o (Gives w.larger w.smaller rule) → IfSome o' (Gives w.smaller w.larger rule) → Chosen w rules (by_rules rules w) → Chosen w (rule ∷ rules) (unwrap_or (option_or o o') (by_rules rules w))
    go (Some r) o' e e' g g' c = Chosen.straight g
    go None (Some r) e e' g g' c = Chosen.exchanged (unfit _ _ rule e) g'
    go None None e e' g g' c = Chosen.later (unfit _ _ rule e) (unfit _ _ rule e') c

pub unrelated_stored : (rules : List Rule) (w : Window) → related w ≡ false → Chosen w rules reply.Store
unrelated_stored [] w e = Chosen.none
unrelated_stored (rule ∷ rules) w e =
    Chosen.later (λ r g. false≢true (sym e ∙ straight_related w (gives_meets g))) (λ r g. false≢true (sym e ∙ exchanged_related w (gives_meets g))) (unrelated_stored rules w e)

-- a rule that does not fit replies nothing
silent : (u v : Operand) (rule : Rule) → Unfit u v rule → rule_reply rule u v ≡ None
silent u v rule n = go (rule_reply rule u v) (reply_gives u v rule)
  where
    go : (o : Option Reply) → IfSome o (Gives u v rule) → o ≡ None
    go None g = refl
    go (Some r) g = absurd (n r g)

pub chosen_only : {w : Window} {rules : List Rule} {r : Reply} → Chosen w rules r → r ≡ by_rules rules w
chosen_only {w} (Chosen.straight {rule = rule} {rules = rules} g) =
    sym (ap (λ o. unwrap_or (option_or o (rule_reply rule w.smaller w.larger)) (by_rules rules w)) (gives_reply g))
chosen_only {w} (Chosen.exchanged {rule = rule} {rules = rules} n g) =
    sym (ap (λ o. unwrap_or (option_or o (rule_reply rule w.smaller w.larger)) (by_rules rules w)) (silent _ _ rule n)
    ∙ ap (λ o. unwrap_or o (by_rules rules w)) (gives_reply g))
chosen_only {w} (Chosen.later {rule = rule} {rules = rules} n n' c) =
    chosen_only c
    ∙ sym (ap (λ o. unwrap_or (option_or o (rule_reply rule w.smaller w.larger)) (by_rules rules w)) (silent _ _ rule n)
    ∙ ap (λ o. unwrap_or o (by_rules rules w)) (silent _ _ rule n'))
chosen_only Chosen.none = refl

pub rules_decided : (rules : List Rule) (w : Window) (r : Reply) → r ≡ by_rules rules w → Decided rules w r
rules_decided rules w r e = record { chosen = subst (λ x. Chosen w rules x) (sym e) (rules_chosen rules w); only = λ s c. chosen_only c ∙ sym e }

pub rules_lawful : (rules : List Rule) → Lawful (by_rules rules)
rules_lawful rules = record {
  sound = λ V k val w v. chosen_means k val v (rules_chosen rules w);
  local = λ w. chosen_known w (rules_chosen rules w);
  falls = λ w al ar. chosen_lighter al ar (rules_chosen rules w);
}
