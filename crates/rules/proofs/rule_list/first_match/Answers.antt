use Rattle.std.proofs.Common.{sym, ap, ◌∙◌, subst, rules, tests}
use Rattle.std.specs.Iterator.Runs.{ItemsMapTo}
use Rattle.std.specs.Slice.Iter.{iter_rest}
use Rattle.rules.specs.RuleLists.{tried}
use Rattle.rules.proofs.FirstFits.{FirstAnswer, first_answer, by_first}
use Rattle.rules.proofs.RuleLists.{unrelated_stored, chosen_only, rules_decided}
use Rattle.rules.proofs.rule_list.first_match.Goals as goal

pub returns-then-not-is_related : goal.returns-then-not-is_related
returns-then-not-is_related c =
    let e = chosen_only (unrelated_stored c.args.rules.now c.args.w (sym c.if-not-is_related.ensures)) in
    record { answer = e; rules = rules_decided _ _ _ e }

pub returns : goal.returns
returns c =
    let w = c.args.w in
    let found : FirstAnswer (λ rule. tried rule w) c.args.rules.now c.find_map.result =
    first_answer (λ y. y.now) (λ rule. tried rule w) _ _ c.args.rules.now c.iter.result c.find_map.result c.find_map.ensures.runs
    (λ p from. subst (ItemsMapTo p (λ y. y.now)) (ap iter_rest from ∙ c.iter.ensures.rest) (c.iter.ensures.runs p p.seen))
    (λ x o q k. search (rules, tests)) in
    let e = c.unwrap_or.ensures ∙ by_first c.args.rules.now w c.find_map.result found in
    record { answer = e; rules = rules_decided _ _ _ e }
