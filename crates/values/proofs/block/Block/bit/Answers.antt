use Rattle.std.proofs.Common.{sym, ◌∙◌}
use Rattle.std.proofs.lemmas.Bool.{le-ltb}
use Rattle.values.proofs.Digits.{digit_past}
use Rattle.values.proofs.block.Block.bit.Goals as goal

pub returns-else-i-lt64 : goal.returns-else-i-lt64
returns-else-i-lt64 c = le-ltb c.args.i 64 c.if-i-lt64.false ∙ sym (digit_past 64 c.args.self.bits c.args.i c.args.self.fits c.if-i-lt64.false)
