-- A file has one answer.
use Rattle.std.proofs.Common.{◌≡◌, ℕ, ◌+◌, ◌<◌, List, [], length, get_or, sym, refl, ap, ◌∙◌, subst, ⊎_elim, arith}
use Rattle.std.proofs.lemmas.Bool.{cases_order, cases_lt}
use Rattle.aiger_check.specs.Text.{lines}
use Rattle.aiger_lines.specs.declared.number.DigitFault.{DigitFault}
use Rattle.aiger_lines.specs.declared.fields.Header.{Header}
use Rattle.aiger_check.specs.declared.faults.LineFault.{LineFault}
use Rattle.aiger_check.specs.declared.faults.LineFault.TheVariants.{Form, Undefined}
use Rattle.aiger_check.specs.declared.faults.AtLine.{AtLine}
use Rattle.aiger_check.specs.Circuits.{Item, total, Defined, Faulty, Begins}
use Rattle.aiger_check.specs.declared.faults.CircuitFault.{CircuitFault}
use Rattle.aiger_check.specs.declared.faults.CircuitFault.TheVariants.{TooLarge, NoHeader, Latches, Limits, Inputs, Room, Line}
use Rattle.aiger_check.specs.Names.{NameLine, NameFault, TailGood, TailBad, comment}
use Rattle.aiger_check.specs.Files.{HeaderAt, Within, Holds, Whole, LinesFault, in_line, in_name, in_output, OutputDefined, Taken, Refused}
use Rattle.aiger_check.proofs.Lines.{header_unique, items_same, no_further, faulty_unique, name_fault, name_fault_unique}

no_comment : (h : Header) (bs : List ℕ) → NameLine h bs → bs ≡ comment → ⊥
no_comment h bs l e =
    let first : l.letter ≡ 99 = ap (λ b. get_or b 0 0) (sym l.starts ∙ e) in
    ⊎_elim (λ p. omega (arith, first, p.0)) (λ p. omega (arith, first, p.0)) l.kind

module _ (h : Header) (ls : List (List ℕ)) (n : ℕ) where
  tail_apart : (m : ℕ) (e : DigitFault) → TailGood h ls n → TailBad h ls n m e → ⊥
  tail_apart m e g b =
      ⊎_elim
      (λ l. name_fault h (get_or ls m []) e (g.names m b.after l) b.fault)
      (λ l. ⊎_elim
      (λ past. omega (arith, b.within))
      (λ c. ⊎_elim
      (λ same. b.more (ap (λ k. get_or ls k []) (sym same) ∙ c))
      (λ order. ⊎_elim
      (λ less. no_comment h (get_or ls g.stop []) (b.names g.stop g.after less) c)
      (λ more. omega arith)
      order)
      (cases_order g.stop m))
      g.ends)
      (cases_lt m g.stop)

  tail_once : (m k : ℕ) (d e : DigitFault) → TailBad h ls n m d → TailBad h ls n k e → (m ≡ k) × (d ≡ e)
  tail_once m k d e a b =
      ⊎_elim
      (λ same. (same, name_fault_unique h (get_or ls k []) d e (subst (λ j. NameFault h (get_or ls j []) d) same a.fault) b.fault))
      (λ order. ⊎_elim
      (λ less. absurd (name_fault h (get_or ls m []) d (b.names m a.after less) a.fault))
      (λ more. absurd (name_fault h (get_or ls k []) e (a.names k b.after more) b.fault))
      order)
      (cases_order m k)

module _ (h : Header) (ls : List (List ℕ)) where
  line_once : (is js : List Item) (f g : LineFault) → Begins h ls is → Begins h ls js → Faulty h (length is) (get_or ls (1 + length is) []) (Defined is) f → Faulty h (length js) (get_or ls (1 + length js) []) (Defined js) g → (length is ≡ length js) × (f ≡ g)
  line_once is js f g a b v w =
      ⊎_elim
      (λ same.
      let e = items_same h ls is js a b same in
      (same, faulty_unique h (length js) (get_or ls (1 + length js) []) (Defined js) f g (subst (λ xs. Faulty h (length xs) (get_or ls (1 + length xs) []) (Defined xs) f) e v) w))
      (λ order. ⊎_elim
      (λ less. absurd (no_further h ls is js f a b less v))
      (λ more. absurd (no_further h ls js is g b a more w))
      order)
      (cases_order (length is) (length js))

  output_once : (is js : List Item) (i j : ℕ) → is ≡ js → ((k : ℕ) → k < i → OutputDefined h is k) → (OutputDefined h is i → ⊥) → ((k : ℕ) → k < j → OutputDefined h js k) → (OutputDefined h js j → ⊥) → i ≡ j
  output_once is js i j e a b c d =
      ⊎_elim
      (λ same. same)
      (λ order. ⊎_elim
      (λ less. absurd (b (subst (λ xs. OutputDefined h xs i) (sym e) (c i less))))
      (λ more. absurd (d (subst (λ xs. OutputDefined h xs j) e (a j more))))
      order)
      (cases_order i j)

  pub lines_unique : (f g : AtLine) → LinesFault h ls f → LinesFault h ls g → f ≡ g
  lines_unique f g (in_line is d m l b w e) (in_line js d' m' l' b' w' e') =
      let o = line_once is js d d' b b' w w' in
      let p : m ≡ m' = omega (arith, o.0) in
      λ i. record { line = p i; fault = o.1 i }
  lines_unique f g (in_line is d m l b w e) (in_name js k d' m' c b' t e') = absurd (no_further h ls is js d b b' (omega arith) w)
  lines_unique f g (in_line is d m l b w e) (in_output js k m' v x y z e') = absurd (no_further h ls is js d b v.begins (omega (arith, v.count)) w)
  lines_unique f g (in_name is k d m c b t e) (in_line js d' m' l' b' w' e') = absurd (no_further h ls js is d' b' b (omega arith) w')
  lines_unique f g (in_name is k d m c b t e) (in_name js k' d' m' c' b' t' e') =
      let o = tail_once h ls (total h + 1) k k' d d' t t' in
      let p : m ≡ m' = omega (arith, o.0) in
      λ i. record { line = p i; fault = Form (o.1 i) }
  lines_unique f g (in_name is k d m c b t e) (in_output js k' m' v x y z e') = absurd (tail_apart h ls (total h + 1) k d v.tail t)
  lines_unique f g (in_output is k m v x y z e) (in_line js d' m' l' b' w' e') = absurd (no_further h ls js is d' b' v.begins (omega (arith, v.count)) w')
  lines_unique f g (in_output is k m v x y z e) (in_name js k' d' m' c' b' t' e') = absurd (tail_apart h ls (total h + 1) k' d' v.tail t')
  lines_unique f g (in_output is k m v x y z e) (in_output js k' m' v' x' y' z' e') =
      let o = output_once is js k k' (items_same h ls is js v.begins v'.begins (v.count ∙ sym v'.count)) y z y' z' in
      let p : m ≡ m' = omega arith in
      λ i. record { line = p i; fault = Undefined }

  pub lines_apart : (is : List Item) (f : AtLine) → Whole h ls is → ((j : ℕ) → j < h.outputs → OutputDefined h is j) → LinesFault h ls f → ⊥
  lines_apart is f v o (in_line js d m l b w e) = no_further h ls js is d b v.begins (omega (arith, v.count)) w
  lines_apart is f v o (in_name js k d m c b t e) = tail_apart h ls (total h + 1) k d v.tail t
  lines_apart is f v o (in_output js k m v' x y z e) = z (subst (λ xs. OutputDefined h xs k) (items_same h ls is js v.begins v'.begins (v.count ∙ sym v'.count)) (o k x))

module _ (bs : List ℕ) (graph places outs : ℕ) where
  same : (h g : Header) → HeaderAt (lines bs) h → HeaderAt (lines bs) g → h ≡ g
  same = header_unique (get_or (lines bs) 0 [])

  pub taken_once : (h g : Header) (is js : List Item) → Taken bs graph places outs h is → Taken bs graph places outs g js → (h ≡ g) × (is ≡ js)
  taken_once h g is js t u =
      let e = same h g t.opens.header u.opens.header in
      let b = subst (λ x. Begins x (lines bs) is) e t.whole.begins in
      (e, items_same g (lines bs) is js b u.whole.begins (t.whole.count ∙ ap total e ∙ sym u.whole.count))

  pub refused_once : (d e : CircuitFault) → Refused bs graph places outs d → Refused bs graph places outs e → d ≡ e
  refused_once TooLarge TooLarge r s = refl
  refused_once TooLarge NoHeader r s = absurd (omega (arith, r, s.0))
  refused_once TooLarge Latches r s = absurd (omega (arith, r, s.0))
  refused_once TooLarge Limits r s = absurd (omega (arith, r, s.0))
  refused_once TooLarge Inputs r s = absurd (omega (arith, r, s.0))
  refused_once TooLarge Room r s = absurd (omega (arith, r, s.0))
  refused_once TooLarge (Line g) r s = absurd (omega (arith, r, s.1.short))
  refused_once NoHeader TooLarge r s = absurd (omega (arith, s, r.0))
  refused_once NoHeader NoHeader r s = refl
  refused_once NoHeader Latches r s = absurd (r.1 s.1.0 s.1.1)
  refused_once NoHeader Limits r s = absurd (r.1 s.1.0 s.1.1)
  refused_once NoHeader Inputs r s = absurd (r.1 s.1.0 s.1.1)
  refused_once NoHeader Room r s = absurd (r.1 s.1.0 s.1.1)
  refused_once NoHeader (Line g) r s = absurd (r.1 s.0 s.1.header)
  refused_once Latches TooLarge r s = absurd (omega (arith, s, r.0))
  refused_once Latches NoHeader r s = absurd (s.1 r.1.0 r.1.1)
  refused_once Latches Latches r s = refl
  refused_once Latches Limits r s = absurd (r.1.2 (subst (λ x. x.latches ≡ 0) (same s.1.0 r.1.0 s.1.1 r.1.1) s.1.2))
  refused_once Latches Inputs r s = absurd (r.1.2 (subst (λ x. x.latches ≡ 0) (same s.1.0 r.1.0 s.1.1 r.1.1) s.1.2))
  refused_once Latches Room r s = absurd (r.1.2 (subst (λ x. x.latches ≡ 0) (same s.1.0 r.1.0 s.1.1 r.1.1) s.1.2))
  refused_once Latches (Line g) r s = absurd (r.1.2 (subst (λ x. x.latches ≡ 0) (same s.0 r.1.0 s.1.header r.1.1) s.1.latches))
  refused_once Limits TooLarge r s = absurd (omega (arith, s, r.0))
  refused_once Limits NoHeader r s = absurd (s.1 r.1.0 r.1.1)
  refused_once Limits Latches r s = absurd (s.1.2 (subst (λ x. x.latches ≡ 0) (same r.1.0 s.1.0 r.1.1 s.1.1) r.1.2))
  refused_once Limits Limits r s = refl
  refused_once Limits Inputs r s = absurd (r.1.3 (subst Within (same s.1.0 r.1.0 s.1.1 r.1.1) s.1.3))
  refused_once Limits Room r s = absurd (r.1.3 (subst Within (same s.1.0 r.1.0 s.1.1 r.1.1) s.1.3))
  refused_once Limits (Line g) r s = absurd (r.1.3 (subst Within (same s.0 r.1.0 s.1.header r.1.1) s.1.within))
  refused_once Inputs TooLarge r s = absurd (omega (arith, s, r.0))
  refused_once Inputs NoHeader r s = absurd (s.1 r.1.0 r.1.1)
  refused_once Inputs Latches r s = absurd (s.1.2 (subst (λ x. x.latches ≡ 0) (same r.1.0 s.1.0 r.1.1 s.1.1) r.1.2))
  refused_once Inputs Limits r s = absurd (s.1.3 (subst Within (same r.1.0 s.1.0 r.1.1 s.1.1) r.1.3))
  refused_once Inputs Inputs r s = refl
  refused_once Inputs Room r s = absurd (r.1.4 (subst (λ x. x.inputs ≡ graph) (same s.1.0 r.1.0 s.1.1 r.1.1) s.1.4))
  refused_once Inputs (Line g) r s = absurd (r.1.4 (subst (λ x. x.inputs ≡ graph) (same s.0 r.1.0 s.1.header r.1.1) s.1.inputs))
  refused_once Room TooLarge r s = absurd (omega (arith, s, r.0))
  refused_once Room NoHeader r s = absurd (s.1 r.1.0 r.1.1)
  refused_once Room Latches r s = absurd (s.1.2 (subst (λ x. x.latches ≡ 0) (same r.1.0 s.1.0 r.1.1 s.1.1) r.1.2))
  refused_once Room Limits r s = absurd (s.1.3 (subst Within (same r.1.0 s.1.0 r.1.1 s.1.1) r.1.3))
  refused_once Room Inputs r s = absurd (s.1.4 (subst (λ x. x.inputs ≡ graph) (same r.1.0 s.1.0 r.1.1 s.1.1) r.1.4))
  refused_once Room Room r s = refl
  refused_once Room (Line g) r s = absurd (r.1.5 (subst (Holds places outs) (same s.0 r.1.0 s.1.header r.1.1) s.1.room))
  refused_once (Line f) TooLarge r s = absurd (omega (arith, s, r.1.short))
  refused_once (Line f) NoHeader r s = absurd (s.1 r.0 r.1.header)
  refused_once (Line f) Latches r s = absurd (s.1.2 (subst (λ x. x.latches ≡ 0) (same r.0 s.1.0 r.1.header s.1.1) r.1.latches))
  refused_once (Line f) Limits r s = absurd (s.1.3 (subst Within (same r.0 s.1.0 r.1.header s.1.1) r.1.within))
  refused_once (Line f) Inputs r s = absurd (s.1.4 (subst (λ x. x.inputs ≡ graph) (same r.0 s.1.0 r.1.header s.1.1) r.1.inputs))
  refused_once (Line f) Room r s = absurd (s.1.5 (subst (Holds places outs) (same r.0 s.1.0 r.1.header s.1.1) r.1.room))
  refused_once (Line f) (Line g) r s = ap Line (lines_unique s.0 (lines bs) f g (subst (λ x. LinesFault x (lines bs) f) (same r.0 s.0 r.1.header s.1.header) r.2) s.2)

  pub apart : (h : Header) (is : List Item) (e : CircuitFault) → Taken bs graph places outs h is → Refused bs graph places outs e → ⊥
  apart h is TooLarge t r = omega (arith, r, t.opens.short)
  apart h is NoHeader t r = r.1 h t.opens.header
  apart h is Latches t r = r.1.2 (subst (λ x. x.latches ≡ 0) (same h r.1.0 t.opens.header r.1.1) t.opens.latches)
  apart h is Limits t r = r.1.3 (subst Within (same h r.1.0 t.opens.header r.1.1) t.opens.within)
  apart h is Inputs t r = r.1.4 (subst (λ x. x.inputs ≡ graph) (same h r.1.0 t.opens.header r.1.1) t.opens.inputs)
  apart h is Room t r = r.1.5 (subst (Holds places outs) (same h r.1.0 t.opens.header r.1.1) t.opens.room)
  apart h is (Line f) t r = lines_apart h (lines bs) is f t.whole t.outputs (subst (λ x. LinesFault x (lines bs) f) (same r.0 h r.1.header t.opens.header) r.2)
