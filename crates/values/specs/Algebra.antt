-- Boolean algebras with two values at least: false, NOT and AND with their laws, and the other operations by these.
-- The laws are the textbook's, so that what is proved from them holds of every Boolean algebra; the three value kinds are shown to have them.
use Rattle.std.specs.Prelude.{◌≡◌}

pub record BooleanAlgebra (V : Type 0) : Type 0 where
  pub bottom : V
  pub not : V → V
  pub and : V → V → V
  pub comm : (a b : V) → and a b ≡ and b a
  pub assoc : (a b c : V) → and (and a b) c ≡ and a (and b c)
  pub and_true : (a : V) → and a (not bottom) ≡ a
  pub and_not : (a : V) → and a (not a) ≡ bottom
  pub not_not : (a : V) → not (not a) ≡ a
  -- a AND (b OR c) is (a AND b) OR (a AND c)
  pub distrib : (a b c : V) → and a (not (and (not b) (not c))) ≡ not (and (not (and a b)) (not (and a c)))
  pub differ : bottom ≡ not bottom → ⊥

abbrev pub top : {V : Type 0} → BooleanAlgebra V → V
top k = k.not k.bottom

abbrev pub or : {V : Type 0} → BooleanAlgebra V → V → V → V
or k a b = k.not (k.and (k.not a) (k.not b))

abbrev pub implies : {V : Type 0} → BooleanAlgebra V → V → V → V
implies k a b = or k (k.not a) b

abbrev pub equiv : {V : Type 0} → BooleanAlgebra V → V → V → V
equiv k a b = or k (k.and a b) (k.and (k.not a) (k.not b))

abbrev pub xor : {V : Type 0} → BooleanAlgebra V → V → V → V
xor k a b = k.not (equiv k a b)
