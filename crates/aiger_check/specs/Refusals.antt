-- The numbers of refusals, the line that each names, and the numbers of digit faults.
-- The numbers are those of docs/REFUSALS.md.
use Rattle.std.specs.Prelude.{ℕ, Option, Some, None}
use Rattle.aiger_lines.specs.declared.number.DigitFault.{DigitFault}
use Rattle.aiger_lines.specs.Numbers.{digit_number}
use Rattle.aiger_check.specs.declared.faults.LineFault.{LineFault}
use Rattle.aiger_check.specs.declared.faults.LineFault.TheVariants.{Form, Literal, Twice, Undefined, Full}
use Rattle.aiger_check.specs.declared.faults.CircuitFault.{CircuitFault}
use Rattle.aiger_check.specs.declared.faults.CircuitFault.TheVariants.{TooLarge, NoHeader, Latches, Limits, Inputs, Room, Line}

abbrev pub line_fault_number : LineFault → ℕ
line_fault_number (Form d) = 7
line_fault_number Literal = 8
line_fault_number Twice = 9
line_fault_number Undefined = 10
line_fault_number Full = 11

abbrev pub fault_number : CircuitFault → ℕ
fault_number TooLarge = 1
fault_number NoHeader = 2
fault_number Latches = 3
fault_number Limits = 4
fault_number Inputs = 5
fault_number Room = 6
fault_number (Line f) = line_fault_number f.fault

-- the line that is at fault, or 0 where it is the file as a whole
abbrev pub fault_line : CircuitFault → ℕ
fault_line TooLarge = 0
fault_line NoHeader = 1
fault_line Latches = 1
fault_line Limits = 1
fault_line Inputs = 1
fault_line Room = 1
fault_line (Line f) = f.line

-- the digit fault of a line that is not of its form
abbrev pub line_digit_fault : LineFault → Option DigitFault
line_digit_fault (Form d) = Some d
line_digit_fault Literal = None
line_digit_fault Twice = None
line_digit_fault Undefined = None
line_digit_fault Full = None

abbrev pub circuit_digit_fault : CircuitFault → Option DigitFault
circuit_digit_fault TooLarge = None
circuit_digit_fault NoHeader = None
circuit_digit_fault Latches = None
circuit_digit_fault Limits = None
circuit_digit_fault Inputs = None
circuit_digit_fault Room = None
circuit_digit_fault (Line f) = line_digit_fault f.fault

-- a digit fault's number, or 0 where there is none
abbrev pub number_if_any : Option DigitFault → ℕ
number_if_any None = 0
number_if_any (Some d) = digit_number d

-- the number of a refusal's digit fault, or 0
abbrev pub fault_digit : CircuitFault → ℕ
fault_digit f = number_if_any (circuit_digit_fault f)
