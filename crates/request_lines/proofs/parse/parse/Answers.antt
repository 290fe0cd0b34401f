use Rattle.request_lines.proofs.Parsing.{no_word}
use Rattle.request_lines.proofs.parse.parse.Goals as goal

pub returns-in_default : goal.returns-in_default
returns-in_default c = record { answer = no_word c.args.bytes.now c.cut.result.0.now c.cut.result.1.now c.cut.ensures c.in_default.ensures.answer }
