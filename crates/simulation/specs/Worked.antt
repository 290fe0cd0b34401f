-- Worked frames of two digits: which texts are files of them, and how frames and errors are told.
-- They are lines that can be checked against docs/PROGRAMS.md, and each is proved by computing it.
use Rattle.std.specs.Prelude.{◌≡◌, Bool, true, false, List, [], ◌∷◌, codes, Some}
use Rattle.aiger_check.specs.declared.faults.CircuitFault.TheVariants.{NoHeader}
use Rattle.simulation.specs.declared.error.SimulateError.TheVariants.{Refused, Frame}
use Rattle.simulation.specs.Frames.{FramesOf, NoFrame}
use Rattle.simulation.specs.Refusals.{error_text}
use Rattle.simulation.specs.Simulations.{row_line}

abbrev pub two_frames : List (List Bool)
two_frames = (false ∷ true ∷ []) ∷ (true ∷ false ∷ []) ∷ []

pub record Worked : Type 0 where
  pub ended : FramesOf 2 (codes "01\n10\n") two_frames
  pub unended : FramesOf 2 (codes "01\n10") two_frames
  -- the second line is too short
  pub short : NoFrame 2 (codes "01\n1\n10\n") 2
  pub row : row_line (record { frame = false ∷ true ∷ []; outputs = true ∷ false ∷ true ∷ [] }) ≡ codes "01 101\n"
  pub refused : error_text (Refused NoHeader) ≡ Some (codes "refused 2 line 1")
  pub frame : error_text (Frame 2) ≡ Some (codes "frame line 2 not understood")
