-- Maps into a Boolean algebra that keep false, NOT and AND.
-- Three equations; the laws that follow from them are proved here.
use Rattle.std.specs.Prelude.{◌≡◌}
use Rattle.std.proofs.Common.{sym, ap, ◌∙◌}
use Rattle.values.specs.Algebra.{BooleanAlgebra}

-- f keeps three operations
pub record Keeps {V W : Type 0} (bottom : V) (not : V → V) (and : V → V → V) (m : BooleanAlgebra W) (f : V → W) : Type 0 where
  pub at_bottom : f bottom ≡ m.bottom
  pub at_not : (a : V) → f (not a) ≡ m.not (f a)
  pub at_and : (a b : V) → f (and a b) ≡ m.and (f a) (f b)

-- f is a homomorphism
abbrev pub Hom : {V W : Type 0} → BooleanAlgebra V → BooleanAlgebra W → (V → W) → Type 0
Hom k m f = Keeps k.bottom k.not k.and m f

-- where such maps tell values apart, the operations have the laws
module _ {V W I : Type 0} (bottom : V) (not : V → V) (and : V → V → V) (m : BooleanAlgebra W) (f : I → V → W)
    (keeps : (i : I) → Keeps bottom not and m (f i)) (apart : (a b : V) → ((i : I) → f i a ≡ f i b) → a ≡ b) (some : I) where
  pub comm_by : (a b : V) → and a b ≡ and b a
  comm_by a b = apart _ _ (λ i. simp (keeps i).at_and (m.comm _ _))

  pub assoc_by : (a b c : V) → and (and a b) c ≡ and a (and b c)
  assoc_by a b c = apart _ _ (λ i. simp (keeps i).at_and (m.assoc _ _ _))

  pub and_true_by : (a : V) → and a (not bottom) ≡ a
  and_true_by a = apart _ _ (λ i. simp ((keeps i).at_and, (keeps i).at_not, (keeps i).at_bottom) (m.and_true _))

  pub and_not_by : (a : V) → and a (not a) ≡ bottom
  and_not_by a = apart _ _ (λ i. simp ((keeps i).at_and, (keeps i).at_not, (keeps i).at_bottom) (m.and_not _))

  pub not_not_by : (a : V) → not (not a) ≡ a
  not_not_by a = apart _ _ (λ i. simp (keeps i).at_not (m.not_not _))

  pub distrib_by : (a b c : V) → and a (not (and (not b) (not c))) ≡ not (and (not (and a b)) (not (and a c)))
  distrib_by a b c = apart _ _ (λ i. simp ((keeps i).at_and, (keeps i).at_not) (m.distrib _ _ _))

  pub differ_by : bottom ≡ not bottom → ⊥
  differ_by e = m.differ (sym (keeps some).at_bottom ∙ ap (f some) e ∙ (keeps some).at_not _ ∙ ap m.not (keeps some).at_bottom)

  abbrev pub algebra_by : BooleanAlgebra V
  algebra_by = record { bottom = bottom; not = not; and = and; comm = comm_by; assoc = assoc_by; and_true = and_true_by; and_not = and_not_by; not_not = not_not_by; distrib = distrib_by; differ = differ_by }
