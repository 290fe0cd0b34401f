-- What a line's own check tells of line k below the header.
use Rattle.std.proofs.Common.{◌≡◌, ℕ, ◌+◌, ◌<◌, ◌≤◌, List, [], ◌∷◌, Err, codes, sym, subst, arith}
use Rattle.std.proofs.lemmas.Bool.{cond-true, cond-false, lt-ltb, le-ltb}
use Rattle.aiger_lines.specs.Forms.{Has, Lacks, form}
use Rattle.aiger_lines.specs.declared.fields.Header.{Header}
use Rattle.aiger_lines.specs.declared.fields.AndLine.{AndLine}
use Rattle.aiger_check.specs.declared.faults.LineFault.{LineFault}
use Rattle.aiger_check.specs.declared.faults.LineFault.TheVariants.{Form, Literal, Twice, Undefined, Full}
use Rattle.aiger_check.specs.Circuits.{input, output, ends, Says, Faulty}
use Rattle.aiger_check.specs.Checks.{One, Three, of, three}

module _ (h : Header) (k : ℕ) (bs : List ℕ) (D : ℕ → Type 0) where
  short : k < h.inputs + h.outputs → ends h k ≡ codes "\n"
  short l = cond-true _ _ _ (lt-ltb k (h.inputs + h.outputs) l)

  long : h.inputs + h.outputs ≤ k → ends h k ≡ codes "  \n"
  long l = cond-false _ _ _ (le-ltb k (h.inputs + h.outputs) l)

  at_short : k < h.inputs + h.outputs → (vs : List ℕ) → Has (form (codes "\n")) bs vs → Has (form (ends h k)) bs vs
  at_short l vs r = subst (λ es. Has (form es) bs vs) (sym (short l)) r

  at_long : h.inputs + h.outputs ≤ k → (vs : List ℕ) → Has (form (codes "  \n")) bs vs → Has (form (ends h k)) bs vs
  at_long l vs r = subst (λ es. Has (form es) bs vs) (sym (long l)) r

  pub says_input : k < h.inputs → (v : ℕ) → Has (form (codes "\n")) bs (v ∷ []) → Says h k bs (input v)
  says_input l v r = record { due = l; reads = at_short (omega arith) (v ∷ []) r }

  pub says_output : h.inputs ≤ k → k < h.inputs + h.outputs → (v : ℕ) → Has (form (codes "\n")) bs (v ∷ []) → Says h k bs (output v)
  says_output g l v r = record { due = (g, l); reads = at_short l (v ∷ []) r }

  pub says_gate : h.inputs + h.outputs ≤ k → (x : AndLine) → Has (form (codes "  \n")) bs (three x) → Says h k bs (of x)
  says_gate l x r = record { due = l; reads = at_long l (three x) r }

  pub input_faulty : k < h.inputs → (f : LineFault) → One h.max D bs input (Err f) → Faulty h k bs D f
  input_faulty l (Form e) o = subst (λ es. Lacks (form es) bs e) (sym (short (omega arith))) o
  input_faulty l Literal o = (input o.0, says_input l o.0 o.1, o.2)
  input_faulty l Twice o = (input o.0, says_input l o.0 o.1, o.2)
  input_faulty l Undefined o = (input o.0, says_input l o.0 o.1, o.2)
  input_faulty l Full o = o

  pub output_faulty : h.inputs ≤ k → k < h.inputs + h.outputs → (f : LineFault) → One h.max (λ _. Unit {0}) bs output (Err f) → Faulty h k bs D f
  output_faulty g l (Form e) o = subst (λ es. Lacks (form es) bs e) (sym (short l)) o
  output_faulty g l Literal o = (output o.0, says_output g l o.0 o.1, o.2)
  output_faulty g l Twice o = (output o.0, says_output g l o.0 o.1, o.2)
  output_faulty g l Undefined o = (output o.0, says_output g l o.0 o.1, o.2)
  output_faulty g l Full o = o

  pub gate_faulty : h.inputs + h.outputs ≤ k → (f : LineFault) → Three h.max D bs (Err f) → Faulty h k bs D f
  gate_faulty l (Form e) o = subst (λ es. Lacks (form es) bs e) (sym (long l)) o
  gate_faulty l Literal o = (of o.0, says_gate l o.0 o.1, o.2)
  gate_faulty l Twice o = (of o.0, says_gate l o.0 o.1, o.2)
  gate_faulty l Undefined o = (of o.0, says_gate l o.0 o.1, o.2)
  gate_faulty l Full o = o
