-- A simulation has one answer.
-- It leaves no choice between answers.
use Rattle.std.specs.Prelude.{◌≡◌, ℕ, ◌⊎◌, List, Ok, Err, vec_items, Result, Vec}
use Rattle.std.specs.declared.alloc.Global.{Global}
use Rattle.rules.specs.declared.window.Window.{Window}
use Rattle.rules.specs.declared.window.Reply.{Reply}
use Rattle.simulation.specs.declared.error.SimulateError.{SimulateError}
use Rattle.simulation.specs.declared.error.SimulateError.TheVariants.{Refused, Frame, Memory}
use Rattle.simulation.specs.Simulations.{Simulates}

-- memory ran out
abbrev pub OutOfMemory : Result (Vec ℕ Global) SimulateError → Type 0
OutOfMemory (Ok v) = ⊥
OutOfMemory (Err (Refused f)) = ⊥
OutOfMemory (Err (Frame k)) = ⊥
OutOfMemory (Err (Memory e)) = Unit {0}

-- an answer by its text
abbrev pub told : Result (Vec ℕ Global) SimulateError → Result (List ℕ) SimulateError
told (Ok v) = Ok (vec_items v)
told (Err e) = Err e

-- two answers to the same files in the same room are the same, unless memory ran out
abbrev pub OneSimulation : (Window → Reply) → Type 0
OneSimulation b =
    (circuit frames : List ℕ) (limit max_edge : ℕ) (r q : Result (Vec ℕ Global) SimulateError)
    → Simulates b circuit frames limit max_edge r → Simulates b circuit frames limit max_edge q → OutOfMemory r ⊎ OutOfMemory q ⊎ (told r ≡ told q)
