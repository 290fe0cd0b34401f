use Rattle.std.proofs.Common.{refl}
use Rattle.std.specs.Fmt.{digits}
use Rattle.aiger_write.specs.Texts.{line_text, items}
use Rattle.aiger_write.specs.Writing.{text_of, write_of}
use Rattle.aiger_write.proofs.theorems.worked_writes.Goals as goal

pub returns : goal.returns
unfolding digits line_text items text_of write_of
returns c = (refl, refl, refl, refl, refl, refl, refl)
