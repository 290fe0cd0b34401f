use Rattle.std.proofs.Common.{ℕ}
use Rattle.aiger_check.specs.declared.section.Section.{Section}
use Rattle.aiger_check.specs.declared.section.Section.TheVariants.{Inputs, Outputs, Gates, Names, Comments}
use Rattle.aiger_check.proofs.section.Section.+skip_empty.Given as goal

-- how many calls may follow
abbrev pub later : Section → ℕ
later (Inputs n) = 2
later (Outputs n) = 1
later (Gates n) = 0
later Names = 0
later Comments = 0

abbrev pub decreases-skip_empty : goal.decreases-skip_empty
decreases-skip_empty l = later l.self
