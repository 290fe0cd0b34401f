-- A file of test frames: a line of binary digits for each frame, one digit for each input.
-- A frame's line is said by its bytes, and the first line that is none is unique.
use Rattle.std.specs.Prelude.{◌≡◌, ℕ, ◌+◌, ◌<◌, ◌⊎◌, Bool, ◌||◌, ◌==◌, List, [], ◌∷◌, ◌++◌, map, length, Some, None, Ok, Err, vec_items, All, Option, Result, Vec, if◌then◌else◌}
use Rattle.std.specs.List.{flat_map}
use Rattle.std.specs.Borrow.{Bor}
use Rattle.std.specs.declared.alloc.Global.{Global}
use Rattle.simulation.specs.Columns.{shown}
use Rattle.simulation.specs.declared.error.SimulateError.{SimulateError}
use Rattle.simulation.specs.declared.error.SimulateError.TheVariants.{Refused, Frame, Memory}

-- a frame gives each input a bit, the first one first; `1` is true
abbrev pub digit : Bool → ℕ
digit b = if b then 49 else 48

abbrev pub digits : List Bool → List ℕ
digits f = map digit f

-- whether a byte is a digit, and the bits that bytes show
abbrev pub binary : ℕ → Bool
binary b = b == 48 || b == 49

abbrev pub bits : List ℕ → List Bool
bits bs = map (λ b. b == 49) bs

-- a line of digits, with its end
abbrev pub line : List Bool → List ℕ
line f = digits f ++ (10 ∷ [])

-- the bytes are these frames' lines, of n digits each; the last line may lack its end where it has a digit
pub record FramesOf (n : ℕ) (bytes : List ℕ) (fs : List (List Bool)) : Type 0 where
  pub width : All (λ f. length f ≡ n) fs
  pub file : (bytes ≡ flat_map line fs) ⊎ ((0 < n) × (bytes ++ (10 ∷ []) ≡ flat_map line fs))

-- the bytes begin with a line's end, which rest follows; or they are none, and so is rest
abbrev pub Ends : List ℕ → List ℕ → Type 0
Ends bytes rest = (bytes ≡ 10 ∷ rest) ⊎ ((bytes ≡ []) × (rest ≡ []))

-- the bytes begin with the line of a frame of n digits, which rest follows
pub record Begins (n : ℕ) (bytes : List ℕ) (f : List Bool) (rest : List ℕ) : Type 0 where
  pub width : length f ≡ n
  pub after : List ℕ
  pub begins : bytes ≡ digits f ++ after
  pub ends : Ends after rest

-- line k, from 1 on, is there, and is the first that is no line of a frame of n digits
pub record NoFrame (n : ℕ) (bytes : List ℕ) (k : ℕ) : Type 0 where
  pub before : List (List Bool)
  pub rest : List ℕ
  pub width : All (λ f. length f ≡ n) before
  pub file : bytes ≡ flat_map line before ++ rest
  pub there : 0 < length rest
  pub none : (f : List Bool) (more : List ℕ) → Begins n rest f more → ⊥
  pub number : k ≡ length before + 1

-- the frame at the front of bytes, and what follows its line
abbrev pub FirstFrame : ℕ → List ℕ → Option (Bor (List ℕ) × Bor (List ℕ)) → Type 0
FirstFrame n bytes None = (f : List Bool) (rest : List ℕ) → Begins n bytes f rest → ⊥
FirstFrame n bytes (Some x) = (f : List Bool) × (x.0.now ≡ digits f) × Begins n bytes f x.1.now

-- these are the frames' digits, each as bytes
abbrev pub Shows : List (Bor (List ℕ)) → List (List Bool) → Type 0
Shows ls fs = shown ls ≡ map digits fs

-- how the reading of a frames file answers; nothing is said where memory runs out
abbrev pub FramesRead : ℕ → List ℕ → Result (Vec (Bor (List ℕ)) Global) SimulateError → Type 0
FramesRead n bytes (Ok v) = (fs : List (List Bool)) × FramesOf n bytes fs × Shows (vec_items v) fs
FramesRead n bytes (Err (Refused f)) = ⊥
FramesRead n bytes (Err (Frame k)) = NoFrame n bytes k
FramesRead n bytes (Err (Memory e)) = Unit {0}
