-- The children of an operand, by the pair that holds them.
use Rattle.std.proofs.Common.{◌≡◌, Bool, true, false, cond, ◌⊎◌, Some, None, Option, sym, refl, ap, ◌∙◌, subst, inl, inr, ⊎_elim}
use Rattle.std.proofs.lemmas.Bool.{or_cases, or_left, or_right, eq-eqb, cond-true, cond-false}
use Rattle.std.proofs.lemmas.Option.{same_Some}
use Rattle.rules.specs.declared.edge.Edge.{Edge}
use Rattle.rules.specs.declared.pair.Pair.{Pair}
use Rattle.rules.specs.declared.window.Operand.{Operand}
use Rattle.rules.specs.Edges.{complemented, same}
use Rattle.rules.specs.Pairs.{has, other}
use Rattle.rules.specs.Windows.{plain_children, complemented_children}
use Rattle.rules.specs.Table.{Child, Common, Plain, Complemented}
use Rattle.rules.proofs.Edged.{same_is}

same_refl : (a : Edge) → same a a ≡ true
same_refl a = eq-eqb a.0 a.0 refl

pub plain_is : (o : Operand) (p : Pair) → plain_children o ≡ Some p → Plain o × (o.children ≡ Some p)
plain_is o p = go (complemented o.edge) o.children
  where
    go : (b : Bool) (c : Option Pair) → cond b None c ≡ Some p → (b ≡ false) × (c ≡ Some p)
    go true c e = cc
    go false c e = (refl, e)

pub complemented_is : (o : Operand) (p : Pair) → complemented_children o ≡ Some p → Complemented o × (o.children ≡ Some p)
complemented_is o p = go (complemented o.edge) o.children
  where
    go : (b : Bool) (c : Option Pair) → cond b c None ≡ Some p → (b ≡ true) × (c ≡ Some p)
    go true c e = (refl, e)
    go false c e = cc

pub is_plain : (o : Operand) {p : Pair} → Plain o → o.children ≡ Some p → plain_children o ≡ Some p
is_plain o t e = cond-false (complemented o.edge) _ _ t ∙ e

pub is_complemented : (o : Operand) {p : Pair} → Complemented o → o.children ≡ Some p → complemented_children o ≡ Some p
is_complemented o t e = cond-true (complemented o.edge) _ _ t ∙ e

pub sibling : {o : Operand} {a b : Edge} → Child o a b → Child o b a
sibling (Child.larger h) = Child.smaller h
sibling (Child.smaller h) = Child.larger h

pub common_left : {u v : Operand} {c a b : Edge} → Common u v c a b → Child u c a
common_left (Common.larger h c) = Child.larger h
common_left (Common.smaller h n c) = Child.smaller h

pub common_right : {u v : Operand} {c a b : Edge} → Common u v c a b → Child v c b
common_right (Common.larger h c) = c
common_right (Common.smaller h n c) = c

-- two children of one node are the same, or the second is the sibling of the first
pub two_children : {o : Operand} {a b c d : Edge} → Child o a b → Child o c d → (a ≡ c) ⊎ (c ≡ b)
two_children (Child.larger h) (Child.larger k) = inl (ap (λ (p : Pair). p.larger) (same_Some _ _ (sym h ∙ k)))
two_children (Child.larger h) (Child.smaller k) = inr (ap (λ (p : Pair). p.smaller) (same_Some _ _ (sym k ∙ h)))
two_children (Child.smaller h) (Child.larger k) = inr (ap (λ (p : Pair). p.larger) (same_Some _ _ (sym k ∙ h)))
two_children (Child.smaller h) (Child.smaller k) = inl (ap (λ (p : Pair). p.smaller) (same_Some _ _ (sym h ∙ k)))

other-larger : (p : Pair) → other p p.larger ≡ Some p.smaller
other-larger p = cond-true _ _ _ (same_refl p.larger)

other-smaller : (p : Pair) → other p p.smaller ≡ Some p.larger
other-smaller p = go (same p.larger p.smaller) refl
  where
    go : (t : Bool) → same p.larger p.smaller ≡ t → cond t (Some p.smaller) (cond (same p.smaller p.smaller) (Some p.larger) None) ≡ Some p.larger
    go true e = ap Some (sym (same_is p.larger p.smaller e))
    go false e = cond-true _ _ _ (same_refl p.smaller)

-- a child of o is what its pair has, and the other child is the pair's other edge
module _ (o : Operand) (p : Pair) (h : o.children ≡ Some p) where
  pub has_child : (e : Edge) → has p e ≡ true → (d : Edge) × Child o e d
  has_child e t =
      ⊎_elim (λ s. (p.smaller, subst (λ x. Child o x p.smaller) (same_is p.larger e s) (Child.larger h)))
      (λ s. (p.larger, subst (λ x. Child o x p.larger) (same_is p.smaller e s) (Child.smaller h)))
      (or_cases _ _ t)

  pub child_has : {e d : Edge} → Child o e d → has p e ≡ true
  child_has (Child.larger {p = q} k) =
      ap (λ x. has x q.larger) (same_Some _ _ (sym h ∙ k)) ∙ or_left (same q.larger q.larger) _ (same_refl q.larger)
  child_has (Child.smaller {p = q} k) =
      ap (λ x. has x q.smaller) (same_Some _ _ (sym h ∙ k)) ∙ or_right (same q.larger q.smaller) _ (same_refl q.smaller)

  pub not_child : {e : Edge} → ((d : Edge) → Child o e d → ⊥) → has p e ≡ false
  not_child {e} n = go (has p e) refl
    where
      go : (t : Bool) → has p e ≡ t → t ≡ false
      go true t = let c = has_child e t in absurd (n c.0 c.1)
      go false t = refl

  pub other_child : (e d : Edge) → other p e ≡ Some d → Child o e d
  other_child e d = go (same p.larger e) (same p.smaller e) refl refl
    where
      go : (s t : Bool) → same p.larger e ≡ s → same p.smaller e ≡ t → cond s (Some p.smaller) (cond t (Some p.larger) None) ≡ Some d → Child o e d
      go true t es et f = subst (λ x. Child o x d) (same_is p.larger e es) (subst (λ x. Child o p.larger x) (same_Some _ _ f) (Child.larger h))
      go false true es et f = subst (λ x. Child o x d) (same_is p.smaller e et) (subst (λ x. Child o p.smaller x) (same_Some _ _ f) (Child.smaller h))
      go false false es et f = cc

  pub child_other : {e d : Edge} → Child o e d → other p e ≡ Some d
  child_other (Child.larger {p = q} k) = ap (λ x. other x q.larger) (same_Some _ _ (sym h ∙ k)) ∙ other-larger q
  child_other (Child.smaller {p = q} k) = ap (λ x. other x q.smaller) (same_Some _ _ (sym h ∙ k)) ∙ other-smaller q

  pub no_other : (e : Edge) → ((d : Edge) → Child o e d → ⊥) → other p e ≡ None
  no_other e n = go (other p e) refl
    where
      go : (x : Option Edge) → other p e ≡ x → x ≡ None
      go None t = refl
      go (Some d) t = absurd (n d (other_child e d t))
