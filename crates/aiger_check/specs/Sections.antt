-- Which lines are due below the header, and what a step over one of them does.
-- The lines left and the lines passed add up to the header's counts.
use Rattle.std.specs.Prelude.{◌≡◌, ℕ, ◌+◌, ◌<◌, ◌≤◌, ◌⊎◌, List, Ok, Err, Result, ◌≢◌}
use Rattle.rules.specs.declared.edge.Edge.{Edge}
use Rattle.aiger_lines.specs.declared.number.DigitFault.{DigitFault}
use Rattle.aiger_lines.specs.declared.fields.Header.{Header}
use Rattle.aiger_check.specs.declared.faults.LineFault.{LineFault}
use Rattle.aiger_check.specs.declared.faults.LineFault.TheVariants.{Form}
use Rattle.aiger_check.specs.declared.section.Section.{Section}
use Rattle.aiger_check.specs.declared.section.Section.TheVariants.{Inputs, Outputs, Gates, Names, Comments}
use Rattle.aiger_check.specs.Circuits.{total, Faulty}
use Rattle.aiger_check.specs.Checks.{Noted, LinePassed}
use Rattle.aiger_check.specs.Names.{NameLine, NameFault, comment}

-- after k lines below the header this section is due, with so many lines left
abbrev pub At : Header → ℕ → Section → Type 0
At h k (Inputs n) = (0 < n) × (k + n ≡ h.inputs)
At h k (Outputs n) = (0 < n) × (k + n ≡ h.inputs + h.outputs) × (h.inputs ≤ k)
At h k (Gates n) = (0 < n) × (k + n ≡ total h) × (h.inputs + h.outputs ≤ k)
At h k Names = total h ≤ k
At h k Comments = ⊥

-- the same, of a section that may have no line left
abbrev pub Reached : Header → ℕ → Section → Type 0
Reached h k (Inputs n) = k + n ≡ h.inputs
Reached h k (Outputs n) = (k + n ≡ h.inputs + h.outputs) × (h.inputs ≤ k)
Reached h k (Gates n) = (k + n ≡ total h) × (h.inputs + h.outputs ≤ k)
Reached h k Names = total h ≤ k
Reached h k Comments = ⊥

-- a name, or the line that begins the comments
abbrev pub NamePassed : Header → List ℕ → Section → Type 0
NamePassed h bs t = (NameLine h bs × (t ≡ Names)) ⊎ ((bs ≡ comment) × (t ≡ Comments))

-- neither of the two
abbrev pub NameRefused : Header → List ℕ → LineFault → Type 0
NameRefused h bs f = (e : DigitFault) × (f ≡ Form e) × NameFault h bs e × (bs ≢ comment)

-- line k below the header, whose bytes are bs: what the buffers become, and what is due next
abbrev pub StepChecked : Header → ℕ → List ℕ → List Edge → List Edge → Result (Unit {0}) LineFault → Section → List Edge → List Edge → Type 0
StepChecked h k bs m o (Ok u) t m' o' = (k < total h → LinePassed h k bs m o m' o' × At h (k + 1) t) × (total h ≤ k → NamePassed h bs t × (m' ≡ m) × (o' ≡ o))
StepChecked h k bs m o (Err f) t m' o' = (k < total h → Faulty h k bs (Noted m) f) × (total h ≤ k → NameRefused h bs f) × (m' ≡ m) × (o' ≡ o)
