-- What the table gives is sound, speaks of known edges, and is lighter.
use Rattle.std.proofs.Common.{◌≡◌, ℕ, ◌+◌, ◌<◌, Bool, true, false, cond, not, List, sym, refl, ap, ◌∙◌, subst, ap₂, add_comm, arith}
use Rattle.std.proofs.lemmas.Bool.{cond-true, cond-false}
use Rattle.rules.specs.declared.edge.Edge.{Edge}
use Rattle.rules.specs.declared.window.Operand.{Operand}
use Rattle.rules.specs.declared.window.Window.{Window}
use Rattle.rules.specs.declared.window.Reply.{Reply}
use Rattle.rules.specs.declared.window.Reply.TheVariants as reply
use Rattle.rules.specs.declared.rule.Rule.{Rule}
use Rattle.rules.specs.Edges.{false_edge, node, complemented, complement}
use Rattle.rules.specs.Pairs.{pair_of, weight}
use Rattle.values.specs.Algebra.{BooleanAlgebra}
use Rattle.values.proofs.Derived.{contradiction, contradiction2, subsumed, subsumed2, absorbed, absorbed2, substituted, substituted2, resolved}
use Rattle.rules.specs.Table.{Child, Plain, Complemented, Gives, Chosen}
use Rattle.rules.specs.Meaning.{means, Follows, Valued, Means, InWindow, Known, Each, Above, Lighter}
use Rattle.rules.proofs.Children.{sibling, common_left, common_right}
use Rattle.rules.proofs.Edged.{node-complement, complemented-complement, of_pair}

module _ {V : Type 0} (k : BooleanAlgebra V) (val : ℕ → V) where
  abbrev both : Edge → Edge → V
  both x y = k.and (means k val x) (means k val y)

  pub means-complement : (e : Edge) → means k val (complement e) ≡ k.not (means k val e)
  unfolding means
  means-complement e =
      ap₂ (λ b n. cond b (k.not (val n)) (val n)) (complemented-complement e) (node-complement e) ∙ go (complemented e) (val (node e))
    where
      go : (b : Bool) (x : V) → cond (not b) (k.not x) x ≡ k.not (cond b (k.not x) x)
      go true x = sym (k.not_not x)
      go false x = refl

  both_pair : (x y : Edge) → both (pair_of x y).larger (pair_of x y).smaller ≡ both x y
  both_pair x y = of_pair x y (λ a b. both a b ≡ both x y) refl (k.comm _ _)

  child_value : {o : Operand} {a b : Edge} → Follows k val o → Child o a b → val (node o.edge) ≡ both a b
  child_value f (Child.larger {p = p} h) = f p h
  child_value f (Child.smaller {p = p} h) = f p h ∙ k.comm _ _

  plain_value : {o : Operand} {a b : Edge} → Follows k val o → Plain o → Child o a b → means k val o.edge ≡ both a b
  unfolding means
  plain_value {o = o} f t c = cond-false (complemented o.edge) _ _ t ∙ child_value f c

  complemented_value : {o : Operand} {a b : Edge} → Follows k val o → Complemented o → Child o a b → means k val o.edge ≡ k.not (both a b)
  unfolding means
  complemented_value {o = o} f t c = cond-true (complemented o.edge) _ _ t ∙ ap k.not (child_value f c)

  means_false : val 0 ≡ k.bottom → means k val false_edge ≡ k.bottom
  unfolding means
  means_false z = z

  -- an edge that is the complement of another
  flip_value : {a : Edge} (c : Edge) → a ≡ complement c → means k val a ≡ k.not (means k val c)
  flip_value c e = ap (means k val) e ∙ means-complement c

  gives_means : {u v : Operand} {rule : Rule} {r : Reply} → val 0 ≡ k.bottom → Follows k val u → Follows k val v → Gives u v rule r → Means k val u.edge v.edge r
  gives_means z fu fv (Gives.contradiction {c = c} pu cu e) =
      means_false z ∙ sym (ap₂ k.and (plain_value fu pu cu) (flip_value c e) ∙ contradiction k _ _)
  gives_means z fu fv (Gives.shared_contradiction {c = c} pu pv cu cv e) =
      means_false z ∙ sym (ap₂ k.and (plain_value fu pu cu ∙ ap₂ k.and (flip_value c e) refl) (plain_value fv pv cv) ∙ contradiction2 k _ _ _)
  gives_means z fu fv (Gives.subsumption {c = c} nu cu e) =
      flip_value c e ∙ sym (ap₂ k.and (complemented_value fu nu cu) (flip_value c e) ∙ subsumed k _ _)
  gives_means z fu fv (Gives.shared_subsumption {c = c} nu pv cu cv e) =
      plain_value fv pv cv ∙ sym (ap₂ k.and (complemented_value fu nu cu ∙ ap k.not (ap₂ k.and (flip_value c e) refl)) (plain_value fv pv cv) ∙ subsumed2 k _ _ _)
  gives_means z fu fv (Gives.idempotence pu cu e) =
      plain_value fu pu cu ∙ sym (ap₂ k.and (plain_value fu pu cu) (ap (means k val) e) ∙ absorbed k _ _)
  gives_means z fu fv (Gives.resolution {s = s} {a = a} nu nv cu cv e) =
      means-complement s
      ∙ sym (k.comm _ _ ∙ ap₂ k.and (complemented_value fv nv cv ∙ ap k.not (ap₂ k.and refl (flip_value a e))) (complemented_value fu nu cu) ∙ resolved k _ _)
  gives_means z fu fv (Gives.substitution {w = w} nu cu e) =
      both_pair _ _ ∙ ap₂ k.and (means-complement w) (ap (means k val) e)
      ∙ sym (ap₂ k.and (complemented_value fu nu cu) (ap (means k val) e) ∙ substituted k _ _)
  gives_means z fu fv (Gives.shared_substitution {w = w} nu pv c) =
      both_pair _ _ ∙ ap₂ k.and (means-complement w) (plain_value fv pv (common_right c))
      ∙ sym (ap₂ k.and (complemented_value fu nu (common_left c)) (plain_value fv pv (common_right c)) ∙ substituted2 k _ _ _)
  gives_means z fu fv (Gives.shared_idempotence pu pv c) =
      both_pair _ _ ∙ ap₂ k.and (plain_value fu pu (common_left c)) refl
      ∙ sym (ap₂ k.and (plain_value fu pu (common_left c)) (plain_value fv pv (common_right c)) ∙ absorbed2 k _ _ _)

  exchange : (x y : Edge) (r : Reply) → Means k val y x r → Means k val x y r
  exchange x y (reply.Edge e) m = m ∙ k.comm _ _
  exchange x y (reply.Pair p) m = m ∙ k.comm _ _
  exchange x y reply.Store m = tt

  pub chosen_means : {w : Window} {rules : List Rule} {r : Reply} → Valued k val w → Chosen w rules r → Means k val w.larger.edge w.smaller.edge r
  chosen_means v (Chosen.straight g) = gives_means v.constant v.larger v.smaller g
  chosen_means v (Chosen.exchanged {r = r} n g) = exchange _ _ r (gives_means v.constant v.smaller v.larger g)
  chosen_means v (Chosen.later n n' c) = chosen_means v c
  chosen_means v Chosen.none = tt

-- the second and the third law, by the same relation
each_pair : (w : Window) {x y : Edge} → Known w x → Known w y → Known w (pair_of x y).larger × Known w (pair_of x y).smaller
each_pair w {x} {y} h g = of_pair x y (λ a b. Known w a × Known w b) (h, g) (g, h)

gives_known : {w : Window} {u v : Operand} {rule : Rule} {r : Reply} → InWindow w u.edge → InWindow w v.edge → ((a b : Edge) → Child u a b → InWindow w a) → ((a b : Edge) → Child v a b → InWindow w a) → Gives u v rule r → Each (Known w) r
gives_known iu iv cu cv (Gives.contradiction _ _ _) = Known.constant
gives_known iu iv cu cv (Gives.shared_contradiction _ _ _ _ _) = Known.constant
gives_known iu iv cu cv (Gives.subsumption _ _ _) = Known.plain iv
gives_known iu iv cu cv (Gives.shared_subsumption _ _ _ _ _) = Known.plain iv
gives_known iu iv cu cv (Gives.idempotence _ _ _) = Known.plain iu
gives_known iu iv cu cv (Gives.resolution _ _ c _ _) = Known.flipped (cu _ _ c)
gives_known {w = w} iu iv cu cv (Gives.substitution _ c _) = each_pair w (Known.flipped (cu _ _ (sibling c))) (Known.plain iv)
gives_known {w = w} iu iv cu cv (Gives.shared_substitution _ _ c) = each_pair w (Known.flipped (cu _ _ (sibling (common_left c)))) (Known.plain iv)
gives_known {w = w} iu iv cu cv (Gives.shared_idempotence _ _ c) = each_pair w (Known.plain iu) (Known.plain (cv _ _ (sibling (common_right c))))

pub chosen_known : (w : Window) {rules : List Rule} {r : Reply} → Chosen w rules r → Each (Known w) r
chosen_known w (Chosen.straight g) =
    gives_known InWindow.larger InWindow.smaller (λ a b c. InWindow.below_larger c) (λ a b c. InWindow.below_smaller c) g
chosen_known w (Chosen.exchanged n g) =
    gives_known InWindow.smaller InWindow.larger (λ a b c. InWindow.below_smaller c) (λ a b c. InWindow.below_larger c) g
chosen_known w (Chosen.later n n' c) = chosen_known w c
chosen_known w Chosen.none = tt

lighter_pair : (n : ℕ) (x y : Edge) → node x + node y < n → weight (pair_of x y) < n
lighter_pair n x y h = of_pair x y (λ a b. node a + node b < n) h (omega arith)

gives_lighter : {u v : Operand} {rule : Rule} {r : Reply} → Above u → Above v → Gives u v rule r → Lighter (node u.edge + node v.edge) r
gives_lighter au av (Gives.contradiction _ _ _) = tt
gives_lighter au av (Gives.shared_contradiction _ _ _ _ _) = tt
gives_lighter au av (Gives.subsumption _ _ _) = tt
gives_lighter au av (Gives.shared_subsumption _ _ _ _ _) = tt
gives_lighter au av (Gives.idempotence _ _ _) = tt
gives_lighter au av (Gives.resolution _ _ _ _ _) = tt
gives_lighter {v = v} au av (Gives.substitution {w = w} _ c _) =
    lighter_pair _ (complement w) v.edge (omega (arith, node-complement w, au _ _ (sibling c)))
gives_lighter {v = v} au av (Gives.shared_substitution {w = w} _ _ c) =
    lighter_pair _ (complement w) v.edge (omega (arith, node-complement w, au _ _ (sibling (common_left c))))
gives_lighter {u = u} au av (Gives.shared_idempotence {w = w} _ _ c) =
    lighter_pair _ u.edge w (omega (arith, av _ _ (sibling (common_right c))))

pub chosen_lighter : {w : Window} {rules : List Rule} {r : Reply} → Above w.larger → Above w.smaller → Chosen w rules r → Lighter (node w.larger.edge + node w.smaller.edge) r
chosen_lighter al ar (Chosen.straight g) = gives_lighter al ar g
chosen_lighter {w = w} {r = r} al ar (Chosen.exchanged n g) =
    subst (λ n. Lighter n r) (add_comm (node w.smaller.edge) (node w.larger.edge)) (gives_lighter ar al g)
chosen_lighter al ar (Chosen.later n n' c) = chosen_lighter al ar c
chosen_lighter al ar Chosen.none = tt
