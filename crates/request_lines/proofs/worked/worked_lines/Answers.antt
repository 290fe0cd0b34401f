use Rattle.std.proofs.Common.{refl}
use Rattle.std.specs.Fmt.{digits}
use Rattle.request_lines.proofs.worked.worked_lines.Goals as goal

pub returns : goal.returns
unfolding digits
returns c = record { lines = search; split = refl }
