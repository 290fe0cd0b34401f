-- Each file has one answer.
-- It leaves no choice between answers, whatever the other definitions say.
use Rattle.std.specs.Prelude.{◌≡◌, ℕ, List}
use Rattle.aiger_lines.specs.declared.fields.Header.{Header}
use Rattle.aiger_check.specs.Circuits.{Item}
use Rattle.aiger_check.specs.declared.faults.CircuitFault.{CircuitFault}
use Rattle.aiger_check.specs.Files.{Taken, Refused}

pub record OneAnswer : Type 0 where
  pub taken : (bs : List ℕ) (graph places outs : ℕ) (h g : Header) (is js : List Item) → Taken bs graph places outs h is → Taken bs graph places outs g js → (h ≡ g) × (is ≡ js)
  pub refused : (bs : List ℕ) (graph places outs : ℕ) (d e : CircuitFault) → Refused bs graph places outs d → Refused bs graph places outs e → d ≡ e
  pub apart : (bs : List ℕ) (graph places outs : ℕ) (h : Header) (is : List Item) (e : CircuitFault) → Taken bs graph places outs h is → Refused bs graph places outs e → ⊥
