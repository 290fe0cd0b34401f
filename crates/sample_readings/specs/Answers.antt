-- How the answer to a circuit file is told.
-- Each text is written out.
use Rattle.std.specs.Prelude.{ℕ, List, ◌++◌, codes, decimal, Ok, Err, Result, Option, Some, None}
use Rattle.std.specs.List.{flat_map}
use Rattle.rules.specs.declared.edge.Edge.{Edge}
use Rattle.aiger_lines.specs.declared.number.DigitFault.{DigitFault}
use Rattle.aiger_lines.specs.Numbers.{digit_number}
use Rattle.aiger_check.specs.declared.faults.CircuitFault.{CircuitFault}
use Rattle.aiger_check.specs.Refusals.{fault_number, fault_line, circuit_digit_fault}

abbrev pub output : Edge → List ℕ
output e = codes " " ++ decimal e.0

-- how many nodes were added, and the outputs' edges
abbrev pub added : ℕ → List Edge → List ℕ
added n os = (codes "added " ++ (decimal n ++ codes " outputs")) ++ flat_map output os

-- a refusal's number and line, and its digit fault where there is one
abbrev pub with_digit : CircuitFault → Option DigitFault → List ℕ
with_digit f None = codes "refused " ++ (decimal (fault_number f) ++ (codes " line " ++ decimal (fault_line f)))
with_digit f (Some d) = codes "refused " ++ (decimal (fault_number f) ++ (codes " line " ++ (decimal (fault_line f) ++ (codes " fault " ++ decimal (digit_number d)))))

abbrev pub refused : CircuitFault → List ℕ
refused f = with_digit f (circuit_digit_fault f)

-- the outputs' edges are told where the file is taken
abbrev pub answered : Result ℕ CircuitFault → List Edge → List ℕ
answered (Ok n) os = added n os
answered (Err f) os = refused f
