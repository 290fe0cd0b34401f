use Rattle.std.proofs.Common.{◌/◌, ◌%◌, sym, ap₂, ◌∙◌}
use Rattle.std.proofs.lemmas.Bool.{cond-true, cond-false, eq-eqb, ne_eqb}
use Rattle.workloads.specs.Randoms.{below, after}
use Rattle.workloads.proofs.random.Random.below.Goals as goal

pub returns-then-n-eq0 : goal.returns-then-n-eq0
unfolding below after
returns-then-n-eq0 c = let e = eq-eqb _ _ c.if-n-eq0.true in record { answer = sym (cond-true _ _ _ e); state = sym (cond-true _ _ _ e) }

pub returns : goal.returns
unfolding below after
returns c =
    let e = ne_eqb _ _ c.if-n-eq0.false in
    record {
      answer = ap₂ (λ u v. u / 4294967296 % v) (c.next.ensures.answer ∙ c.next.ensures.state) c.from.ensures ∙ sym (cond-false _ _ _ e);
      state = c.next.ensures.state ∙ sym (cond-false _ _ _ e);
    }
