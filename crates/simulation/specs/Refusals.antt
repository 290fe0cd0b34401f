-- The text by which a simulation's error is told.
-- The numbers and lines are those of reading.
use Rattle.std.specs.Prelude.{ℕ, List, ◌++◌, codes, decimal, Some, None, Option}
use Rattle.aiger_check.specs.Refusals.{fault_number, fault_line}
use Rattle.simulation.specs.declared.error.SimulateError.{SimulateError}
use Rattle.simulation.specs.declared.error.SimulateError.TheVariants.{Refused, Frame, Memory}

-- nothing is fixed of how want of memory prints
abbrev pub error_text : SimulateError → Option (List ℕ)
error_text (Refused f) = Some (codes "refused " ++ (decimal (fault_number f) ++ (codes " line " ++ decimal (fault_line f))))
error_text (Frame k) = Some (codes "frame line " ++ (decimal k ++ codes " not understood"))
error_text (Memory e) = None
