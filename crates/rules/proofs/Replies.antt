-- A rule's function replies exactly what its line of the table gives.
use Rattle.std.proofs.Common.{◌≡◌, Bool, true, false, ◌⊎◌, Some, None, Option, sym, refl, ap, ◌∙◌, inl, inr, ⊎_elim}
use Rattle.std.specs.Option.{option_or, IfSome}
use Rattle.std.specs.Bool.{then_some}
use Rattle.std.proofs.lemmas.Bool.{or_cases, or_left, or_right, eq-eqb}
use Rattle.std.proofs.lemmas.Option.{none-some}
use Rattle.rules.specs.declared.edge.Edge.{Edge}
use Rattle.rules.specs.declared.pair.Pair.{Pair}
use Rattle.rules.specs.declared.window.Operand.{Operand}
use Rattle.rules.specs.declared.window.Reply.{Reply}
use Rattle.rules.specs.declared.window.Reply.TheVariants as reply
use Rattle.rules.specs.declared.rule.Rule.{Rule}
use Rattle.rules.specs.declared.rule.Rule.TheVariants.{Contradiction, SharedContradiction, Subsumption, SharedSubsumption, Idempotence, Resolution, Substitution, SharedSubstitution, SharedIdempotence}
use Rattle.rules.specs.Edges.{complement, same}
use Rattle.rules.specs.Pairs.{has, other}
use Rattle.rules.specs.Windows.{plain_children, complemented_children}
use Rattle.rules.specs.Rules.{given, clash, resolve, to_pair, rule_reply}
use Rattle.rules.specs.Table.{Child, Common, Complemented, Gives}
use Rattle.rules.proofs.Edged.{same_is, complement-complement, complement_differs}
use Rattle.rules.proofs.Children.{plain_is, complemented_is, is_plain, is_complemented, two_children, has_child, child_has, not_child, other_child, child_other, no_other}

all_given : {A B : Type 0} (P : B → Type 0) (o : Option A) (f : A → Option B) → ((a : A) → o ≡ Some a → IfSome (f a) P) → IfSome (given o f) P
all_given P None f h = tt
all_given P (Some a) f h = h a refl

all_when : {A : Type 0} (P : A → Type 0) (t : Bool) (a : A) → (t ≡ true → P a) → IfSome (then_some t a) P
all_when P true a h = h refl
all_when P false a h = tt

-- the second counts where the first is not there
all_or : {A : Type 0} (P : A → Type 0) (o o' : Option A) → IfSome o P → (o ≡ None → IfSome o' P) → IfSome (option_or o o') P
all_or P None o' h h' = h' refl
all_or P (Some a) o' h h' = h

at_when : {A : Type 0} (t : Bool) (a : A) → t ≡ true → then_some t a ≡ Some a
at_when t a e = ap (λ x. then_some x a) e

not_when : {A : Type 0} (t : Bool) (a : A) → t ≡ false → then_some t a ≡ None
not_when t a e = ap (λ x. then_some x a) e

no_when : {A : Type 0} (t : Bool) (a : A) → then_some t a ≡ None → t ≡ true → ⊥
no_when t a e h = none-some a (sym e ∙ at_when t a h)

-- two children that are complements
record Clash (u v : Operand) : Type 0 where
  a : Edge
  b : Edge
  c : Edge
  d : Edge
  child_u : Child u a b
  child_v : Child v c d
  flips : a ≡ complement c

module _ (u v : Operand) where
  clash_is : (p q : Pair) → u.children ≡ Some p → v.children ≡ Some q → clash p q ≡ true → Clash u v
  clash_is p q h k t = ⊎_elim (at (Child.larger h)) (at (Child.smaller h)) (or_cases _ _ t)
    where
      at : {x y : Edge} → Child u x y → has q (complement x) ≡ true → Clash u v
      at {x} {y} cx s =
          let g = has_child v q k (complement x) s in
          record { a = x; b = y; c = complement x; d = g.0; child_u = cx; child_v = g.1; flips = sym (complement-complement x) }

  flip_child : (p : Pair) → u.children ≡ Some p → has p (complement v.edge) ≡ true → (c d : Edge) × (Child u c d) × (v.edge ≡ complement c)
  flip_child p h t = let g = has_child u p h (complement v.edge) t in (complement v.edge, g.0, g.1, sym (complement-complement v.edge))

  resolves : (s a : Edge) (q : Pair) → Complemented u → Complemented v → Child u s a → v.children ≡ Some q → IfSome (resolve s a q) (Gives u v Resolution)
  resolves s a q nu nv cu k =
      all_given _ (other q s) _ λ b eb. all_when _ (same b (complement a)) _ λ t.
      Gives.resolution nu nv cu (other_child v q k s b eb) (same_is b (complement a) t)

  pub reply_gives : (rule : Rule) → IfSome (rule_reply rule u v) (Gives u v rule)
  reply_gives Contradiction =
      all_given _ (plain_children u) _ λ p e. let g = plain_is u p e in all_when _ (has p (complement v.edge)) _ λ t.
      let f = flip_child p g.1 t in Gives.contradiction g.0 f.2 f.3
  reply_gives SharedContradiction =
      all_given _ (plain_children u) _ λ p e. all_given _ (plain_children v) _ λ q e'. all_when _ (clash p q) _ λ t.
      let g = plain_is u p e in let g' = plain_is v q e' in
      let c = clash_is p q g.1 g'.1 t in Gives.shared_contradiction g.0 g'.0 c.child_u c.child_v c.flips
  reply_gives Subsumption =
      all_given _ (complemented_children u) _ λ p e. let g = complemented_is u p e in all_when _ (has p (complement v.edge)) _ λ t.
      let f = flip_child p g.1 t in Gives.subsumption g.0 f.2 f.3
  reply_gives SharedSubsumption =
      all_given _ (complemented_children u) _ λ p e. all_given _ (plain_children v) _ λ q e'. all_when _ (clash p q) _ λ t.
      let g = complemented_is u p e in let g' = plain_is v q e' in
      let c = clash_is p q g.1 g'.1 t in Gives.shared_subsumption g.0 g'.0 c.child_u c.child_v c.flips
  reply_gives Idempotence =
      all_given _ (plain_children u) _ λ p e. let g = plain_is u p e in all_when _ (has p v.edge) _ λ t.
      Gives.idempotence g.0 (has_child u p g.1 v.edge t).1 refl
  reply_gives Resolution =
      all_given _ (complemented_children u) _ λ p e. all_given _ (complemented_children v) _ λ q e'.
      let g = complemented_is u p e in let g' = complemented_is v q e' in
      all_or (Gives u v Resolution) (resolve p.larger p.smaller q) (resolve p.smaller p.larger q)
      (resolves p.larger p.smaller q g.0 g'.0 (Child.larger g.1) g'.1)
      (λ n. resolves p.smaller p.larger q g.0 g'.0 (Child.smaller g.1) g'.1)
  reply_gives Substitution =
      all_given _ (complemented_children u) _ λ p e. let g = complemented_is u p e in all_given _ (other p v.edge) _ λ w ew.
      Gives.substitution g.0 (other_child u p g.1 v.edge w ew) refl
  reply_gives SharedSubstitution =
      all_given _ (complemented_children u) _ λ p e. all_given _ (plain_children v) _ λ q e'.
      let g = complemented_is u p e in let g' = plain_is v q e' in
      let first = to_pair (complement p.smaller) v.edge in
      let second = to_pair (complement p.larger) v.edge in
      all_or (Gives u v SharedSubstitution) (then_some (has q p.larger) first) (then_some (has q p.smaller) second)
      (all_when _ (has q p.larger) first λ t. Gives.shared_substitution g.0 g'.0 (Common.larger g.1 (has_child v q g'.1 p.larger t).1))
      (λ n. all_when _ (has q p.smaller) second λ t.
      Gives.shared_substitution g.0 g'.0
      (Common.smaller g.1 (λ d c. no_when (has q p.larger) first n (child_has v q g'.1 c)) (has_child v q g'.1 p.smaller t).1))
  reply_gives SharedIdempotence =
      all_given _ (plain_children u) _ λ p e. all_given _ (plain_children v) _ λ q e'.
      let g = plain_is u p e in let g' = plain_is v q e' in
      all_given _ (option_or (other q p.larger) (other q p.smaller)) _ λ w ew.
      ⊎_elim (λ x. Gives.shared_idempotence g.0 g'.0 (Common.larger g.1 (other_child v q g'.1 p.larger w x)))
      (λ x. Gives.shared_idempotence g.0 g'.0
      (Common.smaller g.1 (λ d c. none-some _ (sym x.0 ∙ child_other v q g'.1 c)) (other_child v q g'.1 p.smaller w x.1)))
      (either (other q p.larger) (other q p.smaller) w ew)
    where
      either : (o o' : Option Edge) (w : Edge) → option_or o o' ≡ Some w → (o ≡ Some w) ⊎ ((o ≡ None) × (o' ≡ Some w))
      either None o' w e = inr (refl, e)
      either (Some x) o' w e = inl e

-- the other way: where a line of the table gives something, the function replies it
at_given : {A B : Type 0} (o : Option A) (f : A → Option B) (a : A) {b : B} → o ≡ Some a → f a ≡ Some b → given o f ≡ Some b
at_given o f a e h = ap (λ x. given x f) e ∙ h

at_left : {A : Type 0} (o o' : Option A) {a : A} → o ≡ Some a → option_or o o' ≡ Some a
at_left o o' e = ap (λ x. option_or x o') e

at_right : {A : Type 0} (o o' : Option A) {a : A} → o ≡ None → o' ≡ Some a → option_or o o' ≡ Some a
at_right o o' n e = ap (λ x. option_or x o') n ∙ e

-- where both are there they agree
at_either : {A : Type 0} (o o' : Option A) {a : A} → IfSome o (λ x. x ≡ a) → o' ≡ Some a → option_or o o' ≡ Some a
at_either None o' h e = e
at_either (Some x) o' h e = ap Some h

child_pair : {o : Operand} {a b : Edge} → Child o a b → (p : Pair) × (o.children ≡ Some p)
child_pair (Child.larger {p = p} h) = (p, h)
child_pair (Child.smaller {p = p} h) = (p, h)

flips_has : (o : Operand) (p : Pair) → o.children ≡ Some p → {c d : Edge} (e : Edge) → Child o c d → e ≡ complement c → has p (complement e) ≡ true
flips_has o p h {c} e k f = ap (λ x. has p (complement x)) f ∙ ap (has p) (complement-complement c) ∙ child_has o p h k

clashes : {u v : Operand} (p q : Pair) → u.children ≡ Some p → v.children ≡ Some q → {a b c d : Edge} → Child u a b → Child v c d → a ≡ complement c → clash p q ≡ true
clashes {u} {v} p q h k {a} {b} {c} {d} cu cv e =
    let t : has q (complement a) ≡ true = flips_has v q k a cv e in
    ⊎_elim (λ s. or_left (has q (complement p.larger)) _ (ap (λ x. has q (complement x)) s ∙ t))
    (λ s. or_right (has q (complement p.larger)) _ (ap (λ x. has q (complement x)) (sym s) ∙ t))
    (two_children (Child.larger h) cu)

resolve_is : (s a b : Edge) (q : Pair) → other q s ≡ Some b → b ≡ complement a → resolve s a q ≡ Some (reply.Edge (complement s))
resolve_is s a b q o e = at_given (other q s) _ b o (at_when (same b (complement a)) _ (eq-eqb _ _ (ap (λ (x : Edge). x.0) e)))

pub gives_reply : {u v : Operand} {rule : Rule} {r : Reply} → Gives u v rule r → rule_reply rule u v ≡ Some r
gives_reply {u} {v} (Gives.contradiction pu cu e) =
    let p = child_pair cu in
    at_given (plain_children u) _ p.0 (is_plain u pu p.1) (at_when _ _ (flips_has u p.0 p.1 v.edge cu e))
gives_reply {u} {v} (Gives.shared_contradiction pu pv cu cv e) =
    let p = child_pair cu in let q = child_pair cv in
    at_given (plain_children u) _ p.0 (is_plain u pu p.1) (at_given (plain_children v) _ q.0 (is_plain v pv q.1)
    (at_when _ _ (clashes p.0 q.0 p.1 q.1 cu cv e)))
gives_reply {u} {v} (Gives.subsumption nu cu e) =
    let p = child_pair cu in
    at_given (complemented_children u) _ p.0 (is_complemented u nu p.1) (at_when _ _ (flips_has u p.0 p.1 v.edge cu e))
gives_reply {u} {v} (Gives.shared_subsumption nu pv cu cv e) =
    let p = child_pair cu in let q = child_pair cv in
    at_given (complemented_children u) _ p.0 (is_complemented u nu p.1) (at_given (plain_children v) _ q.0 (is_plain v pv q.1)
    (at_when _ _ (clashes p.0 q.0 p.1 q.1 cu cv e)))
gives_reply {u} {v} (Gives.idempotence pu cu e) =
    let p = child_pair cu in
    at_given (plain_children u) _ p.0 (is_plain u pu p.1) (at_when _ _ (ap (has p.0) e ∙ child_has u p.0 p.1 cu))
gives_reply {u} {v} (Gives.resolution nu nv (Child.larger {p = p} h) cv e) =
    let q = child_pair cv in
    at_given (complemented_children u) _ p (is_complemented u nu h) (at_given (complemented_children v) _ q.0 (is_complemented v nv q.1)
    (at_left (resolve p.larger p.smaller q.0) _ (resolve_is _ _ _ q.0 (child_other v q.0 q.1 cv) e)))
gives_reply {u} {v} (Gives.resolution nu nv (Child.smaller {p = p} h) cv e) =
    let q = child_pair cv in
    at_given (complemented_children u) _ p (is_complemented u nu h) (at_given (complemented_children v) _ q.0 (is_complemented v nv q.1)
    (at_either (resolve p.larger p.smaller q.0) _
    (all_given _ (other q.0 p.larger) _ λ b eb. all_when _ (same b (complement p.smaller)) _ λ t.
    ⊎_elim (λ s. ap (λ x. reply.Edge (complement x)) s) (λ s. absurd (complement_differs p.smaller (sym (s ∙ same_is b _ t))))
    (two_children (other_child v q.0 q.1 p.larger b eb) cv))
    (resolve_is _ _ _ q.0 (child_other v q.0 q.1 cv) e)))
gives_reply {u} {v} (Gives.substitution {w = w} nu cu e) =
    let p = child_pair cu in
    at_given (complemented_children u) _ p.0 (is_complemented u nu p.1)
    (at_given (other p.0 v.edge) _ w (ap (other p.0) e ∙ child_other u p.0 p.1 cu) refl)
gives_reply {u} {v} (Gives.shared_substitution nu pv (Common.larger {p = p} h cv)) =
    let q = child_pair cv in
    at_given (complemented_children u) _ p (is_complemented u nu h) (at_given (plain_children v) _ q.0 (is_plain v pv q.1)
    (at_left (then_some (has q.0 p.larger) _) _ (at_when _ _ (child_has v q.0 q.1 cv))))
gives_reply {u} {v} (Gives.shared_substitution nu pv (Common.smaller {p = p} h n cv)) =
    let q = child_pair cv in
    at_given (complemented_children u) _ p (is_complemented u nu h) (at_given (plain_children v) _ q.0 (is_plain v pv q.1)
    (at_right (then_some (has q.0 p.larger) _) _ (not_when _ _ (not_child v q.0 q.1 n)) (at_when _ _ (child_has v q.0 q.1 cv))))
gives_reply {u} {v} (Gives.shared_idempotence {w = w} pu pv (Common.larger {p = p} h cv)) =
    let q = child_pair cv in
    at_given (plain_children u) _ p (is_plain u pu h) (at_given (plain_children v) _ q.0 (is_plain v pv q.1)
    (at_given (option_or (other q.0 p.larger) _) _ w (at_left _ _ (child_other v q.0 q.1 cv)) refl))
gives_reply {u} {v} (Gives.shared_idempotence {w = w} pu pv (Common.smaller {p = p} h n cv)) =
    let q = child_pair cv in
    at_given (plain_children u) _ p (is_plain u pu h) (at_given (plain_children v) _ q.0 (is_plain v pv q.1)
    (at_given (option_or (other q.0 p.larger) _) _ w (at_right _ _ (no_other v q.0 q.1 p.larger n) (child_other v q.0 q.1 cv)) refl))
