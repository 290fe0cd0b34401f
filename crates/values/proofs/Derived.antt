-- What the seven laws of a Boolean algebra give.
use Rattle.std.proofs.Common.{◌≡◌, sym, ap, ◌∙◌, ap₂}
use Rattle.values.specs.Algebra.{BooleanAlgebra, top, or, implies, equiv}

module _ {V : Type 0} (k : BooleanAlgebra V) where
  or-bottom : (a : V) → or k a k.bottom ≡ a
  or-bottom a = ap k.not (k.and_true (k.not a)) ∙ k.not_not a

  -- a AND NOT (b AND c), spread over NOT b and NOT c
  distrib_not : (a b c : V) → k.and a (k.not (k.and b c)) ≡ or k (k.and a (k.not b)) (k.and a (k.not c))
  distrib_not a b c = ap (λ x. k.and a (k.not x)) (ap₂ k.and (sym (k.not_not b)) (sym (k.not_not c))) ∙ k.distrib a (k.not b) (k.not c)

  pub idem : (a : V) → k.and a a ≡ a
  idem a =
      sym (or-bottom (k.and a a))
      ∙ ap (or k (k.and a a)) (sym (k.and_not a))
      ∙ sym (k.distrib a a (k.not a))
      ∙ ap (λ x. k.and a (k.not x)) (k.and_not (k.not a))
      ∙ k.and_true a

  pub and-bottom : (a : V) → k.and a k.bottom ≡ k.bottom
  and-bottom a =
      ap (k.and a) (sym (k.and_not a)) ∙ sym (k.assoc a a (k.not a)) ∙ ap (λ x. k.and x (k.not a)) (idem a) ∙ k.and_not a

  pub bottom-and : (a : V) → k.and k.bottom a ≡ k.bottom
  bottom-and a = k.comm k.bottom a ∙ and-bottom a

  pub true_and : (a : V) → k.and (top k) a ≡ a
  true_and a = k.comm (top k) a ∙ k.and_true a

  bottom-or : (a : V) → or k k.bottom a ≡ a
  bottom-or a = ap k.not (true_and (k.not a)) ∙ k.not_not a

  -- a AND b AND NOT a is false
  pub contradiction : (a b : V) → k.and (k.and a b) (k.not a) ≡ k.bottom
  contradiction a b =
      ap (λ x. k.and x (k.not a)) (k.comm a b) ∙ k.assoc b a (k.not a) ∙ ap (k.and b) (k.and_not a) ∙ and-bottom b

  -- (a AND b) AND a is a AND b
  pub absorbed : (a b : V) → k.and (k.and a b) a ≡ k.and a b
  absorbed a b = k.comm (k.and a b) a ∙ sym (k.assoc a a b) ∙ ap (λ x. k.and x b) (idem a)

  -- NOT (a AND w) AND a is NOT w AND a
  pub substituted : (a w : V) → k.and (k.not (k.and a w)) a ≡ k.and (k.not w) a
  substituted a w =
      k.comm (k.not (k.and a w)) a ∙ distrib_not a a w ∙ ap (λ x. or k x (k.and a (k.not w))) (k.and_not a)
      ∙ bottom-or (k.and a (k.not w)) ∙ k.comm a (k.not w)

  -- a OR (b AND c) is (a OR b) AND (a OR c)
  or_distrib : (a b c : V) → or k a (k.and b c) ≡ k.and (or k a b) (or k a c)
  or_distrib a b c = ap k.not (distrib_not (k.not a) b c) ∙ k.not_not (k.and (or k a b) (or k a c))

  -- a AND (a OR b) is a
  and-or : (a b : V) → k.and a (or k a b) ≡ a
  and-or a b =
      ap (λ x. k.and x (or k a b)) (sym (or-bottom a)) ∙ sym (or_distrib a k.bottom b)
      ∙ ap (or k a) (bottom-and b) ∙ or-bottom a

  -- NOT (a AND b) AND NOT a is NOT a
  pub subsumed : (a b : V) → k.and (k.not (k.and a b)) (k.not a) ≡ k.not a
  subsumed a b =
      k.comm (k.not (k.and a b)) (k.not a)
      ∙ ap (λ x. k.and (k.not a) (k.not x)) (ap₂ k.and (sym (k.not_not a)) (sym (k.not_not b)))
      ∙ and-or (k.not a) (k.not b)

  -- NOT (s AND NOT a) AND NOT (s AND a) is NOT s
  pub resolved : (s a : V) → k.and (k.not (k.and s (k.not a))) (k.not (k.and s a)) ≡ k.not s
  resolved s a =
      sym (k.not_not (k.and (k.not (k.and s (k.not a))) (k.not (k.and s a)))) ∙ ap k.not (sym (k.distrib s (k.not a) a))
      ∙ ap (λ x. k.not (k.and s (k.not x))) (ap (λ x. k.and x (k.not a)) (k.not_not a) ∙ k.and_not a)
      ∙ ap k.not (k.and_true s)

  -- the same with a second AND beside
  pub contradiction2 : (c b d : V) → k.and (k.and (k.not c) b) (k.and c d) ≡ k.bottom
  contradiction2 c b d =
      sym (k.assoc (k.and (k.not c) b) c d)
      ∙ ap (λ x. k.and x d) (ap (k.and (k.and (k.not c) b)) (sym (k.not_not c)) ∙ contradiction (k.not c) b) ∙ bottom-and d

  pub subsumed2 : (c b d : V) → k.and (k.not (k.and (k.not c) b)) (k.and c d) ≡ k.and c d
  subsumed2 c b d =
      sym (k.assoc (k.not (k.and (k.not c) b)) c d)
      ∙ ap (λ x. k.and x d) (ap (k.and (k.not (k.and (k.not c) b))) (sym (k.not_not c)) ∙ subsumed (k.not c) b ∙ k.not_not c)

  pub substituted2 : (c w d : V) → k.and (k.not (k.and c w)) (k.and c d) ≡ k.and (k.not w) (k.and c d)
  substituted2 c w d =
      sym (k.assoc (k.not (k.and c w)) c d) ∙ ap (λ x. k.and x d) (substituted c w) ∙ k.assoc (k.not w) c d

  pub absorbed2 : (c d w : V) → k.and (k.and c d) (k.and c w) ≡ k.and (k.and c d) w
  absorbed2 c d w = sym (k.assoc (k.and c d) c w) ∙ ap (λ x. k.and x w) (absorbed c d)

  -- a AND NOT (a AND NOT b) is a AND b
  pub cut : (a b : V) → k.and a (k.not (k.and a (k.not b))) ≡ k.and a b
  cut a b = k.comm a _ ∙ substituted a (k.not b) ∙ ap (λ x. k.and x a) (k.not_not b) ∙ k.comm b a

  -- IMPLIES as one AND node
  pub implies_node : (a b : V) → k.not (k.and a (k.not b)) ≡ implies k a b
  implies_node a b = ap (λ x. k.not (k.and x (k.not b))) (sym (k.not_not a))

  -- EQUIV as two AND nodes under a third
  pub equiv_nodes : (a b : V) → k.and (k.not (k.and a (k.not b))) (k.not (k.and (k.not a) b)) ≡ equiv k a b
  equiv_nodes a b =
      let p : V = k.not (k.and a (k.not b)) in
      let l : k.and p a ≡ k.and a b = k.comm p a ∙ cut a b in
      let r : k.and p (k.not b) ≡ k.and (k.not a) (k.not b) =
      ap (λ z. k.and (k.not z) (k.not b)) (k.comm a (k.not b)) ∙ substituted (k.not b) a in
      ap (λ z. k.and p (k.not (k.and (k.not a) z))) (sym (k.not_not b))
      ∙ k.distrib p a (k.not b)
      ∙ ap (λ z. or k z (k.and p (k.not b))) l
      ∙ ap (or k (k.and a b)) r
