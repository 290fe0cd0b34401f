use Rattle.std.specs.Fmt.{digits}
use Rattle.answer_lines.proofs.worked.worked_answers.Goals as goal

pub returns : goal.returns
unfolding digits
returns c = record { answered = search }
