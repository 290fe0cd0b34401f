use Rattle.std.proofs.Common.{◌≡◌, ℕ, List, [], ◌∷◌, ◌++◌, codes, Ok, Err, Result, sym, ◌∙◌, subst}
use Rattle.std.specs.Result.{result_ok}
use Rattle.std.proofs.lemmas.List.{append_cancel_left}
use Rattle.aiger_lines.specs.declared.number.DigitFault.{DigitFault}
use Rattle.aiger_lines.specs.declared.fields.Header.{Header}
use Rattle.aiger_lines.specs.Forms.{Has, form}
use Rattle.aiger_lines.specs.Shapes.{HeaderRead}
use Rattle.aiger_lines.proofs.Same.{has_lacks}
use Rattle.aiger_check.specs.Calls.{HeaderOf}
use Rattle.aiger_check.proofs.header.header_of.Goals as goal

answered : (bs rest : List ℕ) → bs ≡ codes "aag " ++ rest → (r : Result Header DigitFault) → HeaderRead rest r → HeaderOf bs (result_ok r)
answered bs rest starts (Ok h) read = record { rest = rest; starts = starts; numbers = read }
answered bs rest starts (Err e) read = λ h l.
    let vs : List ℕ = h.max ∷ h.inputs ∷ h.latches ∷ h.outputs ∷ h.ands ∷ [] in
    let same = append_cancel_left (codes "aag ") l.rest rest (sym l.starts ∙ starts) in
    has_lacks (codes "    \n") rest vs e (subst (λ r. Has (form (codes "    \n")) r vs) same l.numbers) read

pub returns : goal.returns
returns c = rw c.ok.ensures.value (answered c.args.line.now _ c.in_ok-rest.ensures _ c.header_numbers.ensures)
