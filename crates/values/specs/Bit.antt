-- The bit as a Boolean algebra.
-- AND and NOT are the library's own of truth values, and each law is proved by cases.
use Rattle.std.specs.Prelude.{◌≡◌, Bool, true, false, not, ◌&&◌, refl}
use Rattle.std.proofs.Math.Bool.{and_comm, and_assoc, and-true, and-not_self, not-not}
use Rattle.std.proofs.lemmas.Bool.{false≢true}
use Rattle.values.specs.Algebra.{BooleanAlgebra}

pub distrib : (a b c : Bool) → (a && not (not b && not c)) ≡ not (not (a && b) && not (a && c))
distrib true b c = refl
distrib false b c = refl

abbrev pub bit_algebra : BooleanAlgebra Bool
bit_algebra = record { bottom = false; not = not; and = ◌&&◌; comm = and_comm; assoc = and_assoc; and_true = and-true; and_not = and-not_self; not_not = not-not; distrib = distrib; differ = false≢true }
