-- One step over a line: what each section tells of each kind.
use Rattle.std.proofs.Common.{◌≡◌, ℕ, ◌+◌, ◌-◌, ◌*◌, ◌/◌, ◌<◌, ◌≤◌, List, length, get_or, set, Ok, Err, sym, refl, ap, ◌∙◌, subst, inl, inr, ⊎_elim, arith, Bor}
use Rattle.rules.specs.declared.edge.Edge.{Edge}
use Rattle.rules.specs.Edges.{edge, false_edge}
use Rattle.aiger_lines.specs.declared.number.DigitFault.TheVariants.{Other}
use Rattle.aiger_lines.specs.declared.fields.Header.{Header}
use Rattle.aiger_lines.specs.declared.fields.AndLine.{AndLine}
use Rattle.aiger_check.specs.declared.faults.LineFault.{LineFault}
use Rattle.aiger_check.specs.declared.faults.LineFault.TheVariants.{Form}
use Rattle.aiger_check.specs.declared.line.Line.{Line}
use Rattle.aiger_check.specs.declared.line.Line.TheVariants as line
use Rattle.aiger_check.specs.declared.section.Section.{Section}
use Rattle.aiger_check.specs.declared.section.Section.TheVariants.{Inputs, Outputs, Gates, Names, Comments}
use Rattle.aiger_check.specs.Circuits.{input, output, total, Says, Faulty}
use Rattle.aiger_check.specs.Checks.{Noted, One, Three, of}
use Rattle.aiger_check.specs.Names.{NameFault, no_letter, comment}
use Rattle.aiger_check.specs.Kinds.{bytes, Kind, Naming}
use Rattle.aiger_check.specs.Sections.{At, StepChecked}
use Rattle.aiger_check.proofs.Bytes.{from_heading}
use Rattle.aiger_check.proofs.Sections.{says_input, says_output, says_gate, input_faulty, output_faulty, gate_faulty}

-- bytes that begin with neither `i` nor `o` are no name
no_name_letter : (h : Header) (bs : List ℕ) → (Naming bs → ⊥) → NameFault h bs Other
no_name_letter h bs none = no_letter (λ c n rest kind e. none (⊎_elim (λ p. inl (ap (λ z. get_or z 0 0) e ∙ p.0)) (λ p. inr (ap (λ z. get_or z 0 0) e ∙ p.0)) kind))

-- where a number line is due
pub before_names : (h : Header) (k : ℕ) (s : Section) → At h k s → (s ≡ Names → ⊥) → k < total h
before_names h k (Inputs n) at away = omega (arith, at.0, at.1)
before_names h k (Outputs n) at away = omega (arith, at.0, at.1)
before_names h k (Gates n) at away = omega (arith, at.0, at.1)
before_names h k Names at away = absurd (away refl)
before_names h k Comments at away = absurd at

module _ (h : Header) (s : Section) (l : Line) (m o : List Edge) (k : ℕ) (at : At h k s) where
  refused : k < total h → (f : LineFault) (t : Section) → Faulty h k (bytes l) (Noted m) f → StepChecked h k (bytes l) m o (Err f) t m o
  refused lt f t w = ((λ _. w), (λ g. absurd (omega arith)), refl, refl)

  module _ (x : Bor (List ℕ)) (is' : l ≡ line.Numbers x) where
    at_line : (f : LineFault) → Faulty h k x.now (Noted m) f → Faulty h k (bytes l) (Noted m) f
    at_line f w = subst (λ b. Faulty h k b (Noted m) f) (sym (ap bytes is')) w

    module _ (n : ℕ) (is : s ≡ Inputs n) where
      an_input : At h k (Inputs n)
      an_input = subst (At h k) is at

      in_inputs : k < h.inputs
      in_inputs = omega (arith, an_input.0, an_input.1)

      pub input_bad : (f : LineFault) (t : Section) → One h.max (Noted m) x.now input (Err f) → StepChecked h k (bytes l) m o (Err f) t m o
      input_bad f t w = refused (omega (arith, in_inputs)) f t (at_line f (input_faulty h k x.now (Noted m) in_inputs f w))

      pub input_good : (v : ℕ) (t : Section) → One h.max (Noted m) x.now input (Ok v) → At h (k + 1) t → StepChecked h k (bytes l) m o (Ok tt) t (set m (v / 2) (edge (2 * (h.inputs - n + 1)))) o
      input_good v t w next =
          let e : h.inputs - n ≡ k = omega (arith, an_input.1) in
          ((λ lt. ((input v, subst (λ b. Says h k b (input v)) (sym (ap bytes is')) (says_input h k x.now (Noted m) in_inputs v w.0), w.1, ap (λ z. set m (v / 2) (edge (2 * (z + 1)))) e, refl), next)), (λ g. absurd (omega (arith, in_inputs))))

    module _ (n : ℕ) (is : s ≡ Outputs n) where
      an_output : At h k (Outputs n)
      an_output = subst (At h k) is at

      in_outputs : k < h.inputs + h.outputs
      in_outputs = omega (arith, an_output.0, an_output.1)

      pub output_bad : (f : LineFault) (t : Section) → One h.max (λ _. Unit {0}) x.now output (Err f) → StepChecked h k (bytes l) m o (Err f) t m o
      output_bad f t w = refused (omega (arith, in_outputs)) f t (at_line f (output_faulty h k x.now (Noted m) an_output.2 in_outputs f w))

      pub output_good : (v : ℕ) (t : Section) → One h.max (λ _. Unit {0}) x.now output (Ok v) → At h (k + 1) t → StepChecked h k (bytes l) m o (Ok tt) t m (set o (h.outputs - n) (edge v))
      output_good v t w next =
          let e : h.outputs - n ≡ k - h.inputs = omega (arith, an_output.0, an_output.1, an_output.2) in
          ((λ lt. ((output v, subst (λ b. Says h k b (output v)) (sym (ap bytes is')) (says_output h k x.now (Noted m) an_output.2 in_outputs v w.0), record { literals = w.1.literals; fresh = tt; known = tt }, refl, ap (λ z. set o z (edge v)) e), next)), (λ g. absurd (omega (arith, in_outputs))))

    module _ (n : ℕ) (is : s ≡ Gates n) where
      a_gate : At h k (Gates n)
      a_gate = subst (At h k) is at

      in_gates : k < total h
      in_gates = omega (arith, a_gate.0, a_gate.1)

      pub gate_bad : (f : LineFault) (t : Section) → Three h.max (Noted m) x.now (Err f) → StepChecked h k (bytes l) m o (Err f) t m o
      gate_bad f t w = refused in_gates f t (at_line f (gate_faulty h k x.now (Noted m) a_gate.2 f w))

      pub gate_good : (g : AndLine) (t : Section) → Three h.max (Noted m) x.now (Ok g) → At h (k + 1) t → StepChecked h k (bytes l) m o (Ok tt) t (set m (g.lhs / 2) false_edge) o
      gate_good g t w next =
          ((λ lt. ((of g, subst (λ b. Says h k b (of g)) (sym (ap bytes is')) (says_gate h k x.now (Noted m) a_gate.2 g w.0), w.1, refl, refl), next)), (λ ge. absurd (omega (arith, in_gates))))

  -- no name and no comment where they are due
  pub no_name_here : (t : Section) → s ≡ Names → (Naming (bytes l) → ⊥) → (bytes l ≡ comment → ⊥) → StepChecked h k (bytes l) m o (Err (Form Other)) t m o
  no_name_here t is none end =
      let past : total h ≤ k = subst (At h k) is at in
      ((λ lt. absurd (omega arith)), (λ g. (Other, refl, no_name_letter h (bytes l) none, end)), refl, refl)

-- the first bytes of a line, by its kind
pub header_letter : (l : Line) (x : Bor (List ℕ)) → l ≡ line.Header x → Kind l → (1 ≤ length (bytes l)) × (get_or (bytes l) 0 0 ≡ 97)
header_letter l x is kind =
    let f = from_heading x.now (subst Kind is kind) in
    subst (λ b. (1 ≤ length b) × (get_or b 0 0 ≡ 97)) (sym (ap bytes is)) (omega (arith, f.0), f.1)

pub other_bytes : (l : Line) (x : Bor (List ℕ)) → l ≡ line.Numbers x → Kind l → (Naming (bytes l) → ⊥) × (bytes l ≡ comment → ⊥)
other_bytes l x is kind =
    let f = subst Kind is kind in
    subst (λ b. (Naming b → ⊥) × (b ≡ comment → ⊥)) (sym (ap bytes is)) (f.1, f.2)
