use Rattle.std.proofs.Common.{refl}
use Rattle.std.specs.Fmt.{digits}
use Rattle.reduction.proofs.error.worked_refusals.Goals as goal

pub returns : goal.returns
unfolding digits
returns c = (refl, refl, refl)
