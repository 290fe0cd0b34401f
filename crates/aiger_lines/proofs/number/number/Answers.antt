use Rattle.std.proofs.Common.{◌≡◌, get_or, ⊎_elim, arith}
use Rattle.std.proofs.lemmas.List.{take_rest}
use Rattle.aiger_lines.proofs.Digit.{number_at}
use Rattle.aiger_lines.proofs.number.number.Goals as goal

pub returns : goal.returns
returns c =
    let told = c.digits-n.ensures in
    let n = c.digits-n.result.0 in
    let alone : get_or c.args.s.now 0 0 ≡ 48 → n ≡ 1 = λ e. ⊎_elim (λ p. omega arith) (λ ne. omega arith) c.else-first-eq48.either in
    let at = number_at c.args.s.now n told.within told.all told.stops (omega arith) (omega arith) alone in
    rw (told.writes (omega arith), take_rest c.args.s.now n) at
