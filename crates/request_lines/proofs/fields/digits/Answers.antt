use Rattle.request_lines.proofs.Texts.{not_bits}
use Rattle.request_lines.proofs.fields.digits.Goals as goal

pub returns-in_default : goal.returns-in_default
returns-in_default c = not_bits c.args.digits.now c.loop-digit.digit-index c.loop-digit-test.true c.in_default.ensures
