-- A rule fits only where the operands have a node in common.
use Rattle.std.proofs.Common.{◌≡◌, true, ◌||◌, eqb, sym, refl, ap, ◌∙◌}
use Rattle.std.proofs.lemmas.Bool.{or_left, or_right, eq-eqb}
use Rattle.rules.specs.declared.edge.Edge.{Edge}
use Rattle.rules.specs.declared.window.Operand.{Operand}
use Rattle.rules.specs.declared.window.Window.{Window}
use Rattle.rules.specs.declared.window.Reply.{Reply}
use Rattle.rules.specs.declared.rule.Rule.{Rule}
use Rattle.rules.specs.Edges.{node}
use Rattle.rules.specs.Windows.{has_node, below, any_below, related}
use Rattle.rules.specs.Table.{Child, Gives}
use Rattle.rules.proofs.Edged.{node-complement}
use Rattle.rules.proofs.Children.{common_left, common_right}

-- the node of v is a child of u, or a node is a child of both
pub data Meets (u v : Operand) : Type 0 where
  operand : {c d : Edge} → Child u c d → node c ≡ node v.edge → Meets u v
  children : {a b c d : Edge} → Child u a b → Child v c d → node a ≡ node c → Meets u v

pub gives_meets : {u v : Operand} {rule : Rule} {r : Reply} → Gives u v rule r → Meets u v
gives_meets (Gives.contradiction {c = c} _ cu e) = Meets.operand cu (sym (ap node e ∙ node-complement c))
gives_meets (Gives.shared_contradiction {c = c} _ _ cu cv e) = Meets.children cu cv (ap node e ∙ node-complement c)
gives_meets (Gives.subsumption {c = c} _ cu e) = Meets.operand cu (sym (ap node e ∙ node-complement c))
gives_meets (Gives.shared_subsumption {c = c} _ _ cu cv e) = Meets.children cu cv (ap node e ∙ node-complement c)
gives_meets (Gives.idempotence _ cu e) = Meets.operand cu (sym (ap node e))
gives_meets (Gives.resolution _ _ cu cv _) = Meets.children cu cv refl
gives_meets (Gives.substitution _ cu e) = Meets.operand cu (sym (ap node e))
gives_meets (Gives.shared_substitution _ _ c) = Meets.children (common_left c) (common_right c) refl
gives_meets (Gives.shared_idempotence _ _ c) = Meets.children (common_left c) (common_right c) refl

child_below : {o : Operand} {c d : Edge} → Child o c d → (e : Edge) → node c ≡ node e → below o e ≡ true
child_below (Child.larger {p = p} h) e n = ap (λ x. has_node x (node e)) h ∙ or_left (eqb (node p.larger) (node e)) _ (eq-eqb _ _ n)
child_below (Child.smaller {p = p} h) e n = ap (λ x. has_node x (node e)) h ∙ or_right (eqb (node p.larger) (node e)) _ (eq-eqb _ _ n)

child_shared : (o : Operand) {u : Operand} {c d : Edge} → Child u c d → below o c ≡ true → any_below o u.children ≡ true
child_shared o (Child.larger {p = p} h) t = ap (any_below o) h ∙ or_left (below o p.larger) _ t
child_shared o (Child.smaller {p = p} h) t = ap (any_below o) h ∙ or_right (below o p.larger) _ t

module _ (w : Window) where
  pub straight_related : Meets w.larger w.smaller → related w ≡ true
  straight_related (Meets.operand c n) = or_left (below w.larger w.smaller.edge || _) _ (or_left (below w.larger w.smaller.edge) _ (child_below c _ n))
  straight_related (Meets.children cu cv n) = or_right (below w.larger w.smaller.edge || _) _ (child_shared w.larger cv (child_below cu _ n))

  pub exchanged_related : Meets w.smaller w.larger → related w ≡ true
  exchanged_related (Meets.operand c n) = or_left (below w.larger w.smaller.edge || _) _ (or_right (below w.larger w.smaller.edge) _ (child_below c _ n))
  exchanged_related (Meets.children cu cv n) = or_right (below w.larger w.smaller.edge || _) _ (child_shared w.larger cu (child_below cv _ (sym n)))
