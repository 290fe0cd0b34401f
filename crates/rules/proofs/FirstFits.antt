-- `find_map` over a list: the first answer that is not `None`. No contract may cite this file, since it imports what std says of runs.
use Rattle.std.proofs.Common.{◌≡◌, ℕ, zero, suc, ◌+◌, ◌<◌, List, [], ◌∷◌, length, get_or, Some, None, Option, unwrap_or, sym, refl, ap, ◌∙◌, arith, rules}
use denote.Param.Members.{Mut}
use Rattle.std.specs.Fn.{Called}
use Rattle.std.specs.Option.{MatchOption}
use Rattle.std.specs.Bool.{IsTrue}
use Rattle.std.specs.Iterator.Runs.{Run, SomeRun, ItemsMapTo, AllItemsGive, IsFirstToGive}
use Rattle.std.proofs.iter.runs.Made.{chains}
use Rattle.rules.specs.declared.window.Window.{Window}
use Rattle.rules.specs.declared.window.Reply.{Reply}
use Rattle.rules.specs.declared.window.Reply.TheVariants as reply
use Rattle.rules.specs.declared.rule.Rule.{Rule}
use Rattle.rules.specs.RuleLists.{tried, by_rules}

module _ {B C : Type 0} (h : B → Option C) where
  -- r is the first answer of h over the list, or each is `None`
  abbrev pub FirstAnswer : List B → Option C → Type 0
  FirstAnswer xs r =
      MatchOption r ((k : ℕ) (d : B) → k < length xs → h (get_or xs k d) ≡ None)
      (λ y. (i : ℕ) × (i < length xs) × ((d : B) → h (get_or xs i d) ≡ Some y) × ((k : ℕ) (d : B) → k < i → h (get_or xs k d) ≡ None))

module _ {S A B C F : Type 0} {steps : S → Option A → S → Type 0} (v : A → B) (h : B → Option C) (g : Mut F (A × Unit {0}) (Option C)) (f : F) (xs : List B) where
  pub first_answer : (s : S) (r : Option C)
      → SomeRun steps s (λ p. MatchOption r (IsTrue p.whole × AllItemsGive p g f None) (λ y. (i : ℕ) × (i < p.len) × (p.len ≡ i + 1) × IsFirstToGive p g f (Some y) None i))
      → ((p : Run steps) → p.from ≡ s → ItemsMapTo p v xs)
      → ((x : A) (o : Option C) (q : F) → Called g f (x, tt) o q → (q ≡ f) × (o ≡ h (v x)))
      → FirstAnswer h xs r
  first_answer s None (p, from, m) to calls = let t = to p from in search (rules, chains)
  first_answer s (Some y) (p, from, m) to calls = let t = to p from in search (rules, chains)

-- `find_map` by `tried` gives what the list of rules replies
pub by_first : (rules : List Rule) (w : Window) (o : Option Reply) → FirstAnswer (λ rule. tried rule w) rules o → unwrap_or o reply.Store ≡ by_rules rules w
by_first [] w None f = refl
by_first [] w (Some r) f = absurd (omega (arith, f.1))
by_first (rule ∷ rules) w None f =
    by_first rules w None (λ k d l. f (suc k) d (omega arith)) ∙ sym (ap (λ o. unwrap_or o (by_rules rules w)) (f 0 rule (omega arith)))
by_first (rule ∷ rules) w (Some r) (zero, l, here, before) = sym (ap (λ o. unwrap_or o (by_rules rules w)) (here rule))
by_first (rule ∷ rules) w (Some r) (suc i, l, here, before) =
    by_first rules w (Some r) (i, omega arith, here, λ k d b. before (suc k) d (omega arith))
    ∙ sym (ap (λ o. unwrap_or o (by_rules rules w)) (before 0 rule (omega arith)))
