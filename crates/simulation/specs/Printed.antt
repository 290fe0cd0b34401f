-- What is printed of a circuit file and a file of test frames.
-- The text is that of a simulation, whose definition stands beside it.
use Rattle.std.specs.Prelude.{◌≡◌, ℕ, List, Some, Ok, Err, vec_items, Result, Vec}
use Rattle.std.specs.Fmt.{with_newline}
use Rattle.std.specs.declared.alloc.Global.{Global}
use Rattle.rules.specs.RuleLists.{by_rules}
use Rattle.rulesets.specs.declared.levels.OptLevel.TheVariants.{Three}
use Rattle.rulesets.specs.Levels.{level_rules}
use Rattle.aiger_room.specs.declared.room.Room.{Room}
use Rattle.aiger_room.specs.Rooms.{RoomFor}
use Rattle.simulation.specs.declared.error.SimulateError.{SimulateError}
use Rattle.simulation.specs.declared.error.SimulateError.TheVariants.{Refused, Frame, Memory}
use Rattle.simulation.specs.Refusals.{error_text}
use Rattle.simulation.specs.Simulations.{Simulates}

-- simulated at level three, in a graph with room for each gate that the header names
abbrev pub Sized : List ℕ → List ℕ → Result (Vec ℕ Global) SimulateError → Type 0
Sized circuit frames r = (s : Room) × RoomFor circuit s × Simulates (by_rules (level_rules Three)) circuit frames s.gates 4294967295 r

-- the line that tells an error; nothing is said where memory runs out
abbrev pub ErrorLine : SimulateError → Result (Vec ℕ Global) SimulateError → Type 0
ErrorLine e (Ok line) = Some (vec_items line) ≡ with_newline (error_text e)
ErrorLine e (Err (Refused f)) = ⊥
ErrorLine e (Err (Frame k)) = ⊥
ErrorLine e (Err (Memory m)) = Unit {0}

-- the lines of the frames, or the line of the error
abbrev pub Told : Result (Vec ℕ Global) SimulateError → Result (Vec ℕ Global) SimulateError → Type 0
Told (Ok text) r = r ≡ Ok text
Told (Err (Refused f)) r = ErrorLine (Refused f) r
Told (Err (Frame k)) r = ErrorLine (Frame k) r
Told (Err (Memory m)) r = r ≡ Err (Memory m)

abbrev pub Printed : List ℕ → List ℕ → Result (Vec ℕ Global) SimulateError → Type 0
Printed circuit frames r = (simulated : Result (Vec ℕ Global) SimulateError) × Sized circuit frames simulated × Told simulated r
