-- The number, the line and the text by which a refusal is told.
-- The numbers and lines are those of reading and writing.
use Rattle.std.specs.Prelude.{◌≡◌, ℕ, List, ◌++◌, codes, decimal, Some, None, Option}
use Rattle.graph_model.specs.Refusals.{refusal_number}
use Rattle.graph_model.specs.declared.refusal.Refusal.TheVariants.{TextTooLong}
use Rattle.aiger_check.specs.Refusals.{fault_number, fault_line}
use Rattle.aiger_check.specs.declared.faults.LineFault.TheVariants.{Twice}
use Rattle.aiger_check.specs.declared.faults.CircuitFault.TheVariants.{TooLarge, Line}
use Rattle.reduction.specs.declared.error.Refused.{Refused as a_refused}
use Rattle.reduction.specs.declared.error.Refused.TheVariants.{File, Write}
use Rattle.reduction.specs.declared.error.ReduceError.{ReduceError}
use Rattle.reduction.specs.declared.error.ReduceError.TheVariants.{Refused, ReadsBackOtherwise, Memory}

abbrev pub refused_number : a_refused → ℕ
refused_number (File f) = fault_number f
refused_number (Write c) = refusal_number c

abbrev pub refused_line : a_refused → ℕ
refused_line (File f) = fault_line f
refused_line (Write c) = 0

abbrev pub refused_text : a_refused → List ℕ
refused_text r = codes "refused " ++ (decimal (refused_number r) ++ (codes " line " ++ decimal (refused_line r)))

-- nothing is fixed of how want of memory prints
abbrev pub error_text : ReduceError → Option (List ℕ)
error_text (Refused r) = Some (refused_text r)
error_text (ReadsBackOtherwise text) = Some (codes "the written circuit reads back otherwise")
error_text (Memory e) = None

-- a file that is too large, a variable that line 30 defines again, and a text that is too long
abbrev pub Worked : Type 0
Worked =
    (refused_text (File TooLarge) ≡ codes "refused 1 line 0")
    × (refused_text (File (Line (record { line = 30; fault = Twice }))) ≡ codes "refused 9 line 30")
    × (refused_text (Write TextTooLong) ≡ codes "refused 15 line 0")
