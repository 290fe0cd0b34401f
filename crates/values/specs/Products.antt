-- Two values of a Boolean algebra side by side are a Boolean algebra.
-- Each law is that of the two halves.
use Rattle.std.proofs.Common.{ap, ap₂}
use Rattle.values.specs.Algebra.{BooleanAlgebra}
use Rattle.values.specs.declared.cofactors.Cofactors.{Cofactors}

abbrev pub beside : {V : Type 0} → V → V → Cofactors V
beside a b = record { low = a; high = b }

abbrev pub product : {V : Type 0} → BooleanAlgebra V → BooleanAlgebra (Cofactors V)
product k = record {
  bottom = beside k.bottom k.bottom;
  not = λ a. beside (k.not a.low) (k.not a.high);
  and = λ a b. beside (k.and a.low b.low) (k.and a.high b.high);
  comm = λ a b. ap₂ beside (k.comm _ _) (k.comm _ _);
  assoc = λ a b c. ap₂ beside (k.assoc _ _ _) (k.assoc _ _ _);
  and_true = λ a. ap₂ beside (k.and_true _) (k.and_true _);
  and_not = λ a. ap₂ beside (k.and_not _) (k.and_not _);
  not_not = λ a. ap₂ beside (k.not_not _) (k.not_not _);
  distrib = λ a b c. ap₂ beside (k.distrib _ _ _) (k.distrib _ _ _);
  differ = λ e. k.differ (ap (λ x. x.low) e);
}
