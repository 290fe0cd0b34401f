-- A line is read in one way, or has one fault, and never both.
use Rattle.std.proofs.Common.{◌≡◌, ℕ, ◌+◌, ◌<◌, ◌≤◌, List, [], ◌∷◌, length, get_or, take, codes, sym, refl, ap, ◌∙◌, subst, inl, inr, ⊎_elim, arith}
use Rattle.std.proofs.lemmas.List.{ext_get_or, append_cancel_left, length-take-le, get_or-take}
use Rattle.aiger_lines.specs.declared.number.DigitFault.{DigitFault}
use Rattle.aiger_lines.specs.Numbers.{NumberAt, DigitFaultAt}
use Rattle.aiger_lines.proofs.Unique.{number_unique, no_fault, fault_unique}
use Rattle.aiger_lines.specs.Forms.{Has, Lacks, form}
use Rattle.aiger_lines.specs.declared.fields.Header.{Header}
use Rattle.aiger_lines.proofs.Same.{tail_same, has_unique, has_lacks}
use Rattle.aiger_check.specs.declared.faults.LineFault.{LineFault}
use Rattle.aiger_check.specs.declared.faults.LineFault.TheVariants.{Form, Literal, Twice, Undefined, Full}
use Rattle.aiger_check.specs.Circuits.{Item, input, output, gate, numbers, ends, Says, Good, Bad, Faulty, Defined, Begins, nothing}
use Rattle.aiger_check.specs.Names.{Letter, Named, NameLine, NameFault, no_letter, no_index, no_name}
use Rattle.aiger_check.specs.Files.{HeaderLine}

head_same : (b c : ℕ) (bs r s : List ℕ) → bs ≡ b ∷ r → bs ≡ c ∷ s → b ≡ c
head_same b c bs r s p q = cc

pub lacks_unique : (es bs : List ℕ) (d e : DigitFault) → Lacks (form es) bs d → Lacks (form es) bs e → d ≡ e
lacks_unique [] bs d e f g = f.1 ∙ sym g.1
lacks_unique (b ∷ es) bs d e f g =
    ⊎_elim
    (λ f1. ⊎_elim (λ g1. fault_unique bs d e f1 g1) (λ n. absurd (no_fault bs n.0 n.1 n.2 d f1)) g)
    (λ m. ⊎_elim
    (λ g1. absurd (no_fault bs m.0 m.1 m.2 e g1))
    (λ n.
    let u = number_unique bs m.0 n.0 m.1 n.1 m.2 n.2 in
    ⊎_elim
    (λ bad. ⊎_elim (λ worse. bad.0 ∙ sym worse.0) (λ on. absurd (bad.1 on.0 (u.1 ∙ on.1))) n.3)
    (λ on. ⊎_elim
    (λ bad. absurd (bad.1 on.0 (sym u.1 ∙ on.1)))
    (λ more.
    let t = tail_same b b m.1 on.0 more.0 on.1 (u.1 ∙ more.1) in
    lacks_unique es on.0 d e on.2 (subst (λ l. Lacks (form es) l e) (sym t) more.2))
    n.3)
    m.3)
    g)
    f

module _ (h : Header) (k : ℕ) (bs : List ℕ) where
  same_numbers : (i j : Item) → Says h k bs i → Says h k bs j → numbers i ≡ numbers j
  same_numbers i j s t = has_unique (ends h k) bs (numbers i) (numbers j) s.reads t.reads

  pub says_unique : (i j : Item) → Says h k bs i → Says h k bs j → i ≡ j
  says_unique (input v) (input w) s t = let e = same_numbers (input v) (input w) s t in λ i. input (get_or (e i) 0 0)
  says_unique (input v) (output w) s t = absurd (omega (arith, s.due, t.due.0))
  says_unique (input v) (gate a b c) s t = absurd (omega (arith, s.due, t.due))
  says_unique (output v) (input w) s t = absurd (omega (arith, t.due, s.due.0))
  says_unique (output v) (output w) s t = let e = same_numbers (output v) (output w) s t in λ i. output (get_or (e i) 0 0)
  says_unique (output v) (gate a b c) s t = absurd (omega (arith, s.due.1, t.due))
  says_unique (gate a b c) (input w) s t = absurd (omega (arith, s.due, t.due))
  says_unique (gate a b c) (output w) s t = absurd (omega (arith, t.due.1, s.due))
  says_unique (gate a b c) (gate x y z) s t = let e = same_numbers (gate a b c) (gate x y z) s t in λ i. gate (get_or (e i) 0 0) (get_or (e i) 1 0) (get_or (e i) 2 0)

  module _ (D : ℕ → Type 0) where
    bad_good : (i : Item) (f : LineFault) → Bad h.max D i f → Good h.max D i → ⊥
    bad_good i (Form e) b g = b
    bad_good i Literal b g = b g.literals
    bad_good i Twice b g = b.1 g.fresh
    bad_good i Undefined b g = b.2 g.known
    bad_good i Full b g = b

    pub faulty_good : (f : LineFault) (i : Item) → Faulty h k bs D f → Says h k bs i → Good h.max D i → ⊥
    faulty_good (Form e) i w s g = has_lacks (ends h k) bs (numbers i) e s.reads w
    faulty_good Literal i w s g = bad_good i Literal (subst (λ j. Bad h.max D j Literal) (says_unique w.0 i w.1 s) w.2) g
    faulty_good Twice i w s g = bad_good i Twice (subst (λ j. Bad h.max D j Twice) (says_unique w.0 i w.1 s) w.2) g
    faulty_good Undefined i w s g = bad_good i Undefined (subst (λ j. Bad h.max D j Undefined) (says_unique w.0 i w.1 s) w.2) g
    faulty_good Full i w s g = w

    no_form : (e : DigitFault) (i : Item) → Lacks (form (ends h k)) bs e → Says h k bs i → ⊥
    no_form e i l s = has_lacks (ends h k) bs (numbers i) e s.reads l

    at : (f : LineFault) (i j : Item) → Says h k bs i → Says h k bs j → Bad h.max D j f → Bad h.max D i f
    at f i j s t b = subst (λ z. Bad h.max D z f) (says_unique j i t s) b

    pub faulty_unique : (f g : LineFault) → Faulty h k bs D f → Faulty h k bs D g → f ≡ g
    faulty_unique (Form d) (Form e) v w = ap Form (lacks_unique (ends h k) bs d e v w)
    faulty_unique (Form d) Literal v w = absurd (no_form d w.0 v w.1)
    faulty_unique (Form d) Twice v w = absurd (no_form d w.0 v w.1)
    faulty_unique (Form d) Undefined v w = absurd (no_form d w.0 v w.1)
    faulty_unique (Form d) Full v w = absurd w
    faulty_unique Literal (Form e) v w = absurd (no_form e v.0 w v.1)
    faulty_unique Literal Literal v w = refl
    faulty_unique Literal Twice v w = absurd (v.2 (at Twice v.0 w.0 v.1 w.1 w.2).0)
    faulty_unique Literal Undefined v w = absurd (v.2 (at Undefined v.0 w.0 v.1 w.1 w.2).0)
    faulty_unique Literal Full v w = absurd w
    faulty_unique Twice (Form e) v w = absurd (no_form e v.0 w v.1)
    faulty_unique Twice Literal v w = absurd (w.2 (at Twice w.0 v.0 w.1 v.1 v.2).0)
    faulty_unique Twice Twice v w = refl
    faulty_unique Twice Undefined v w = absurd (v.2.1 (at Undefined v.0 w.0 v.1 w.1 w.2).1)
    faulty_unique Twice Full v w = absurd w
    faulty_unique Undefined (Form e) v w = absurd (no_form e v.0 w v.1)
    faulty_unique Undefined Literal v w = absurd (w.2 (at Undefined w.0 v.0 w.1 v.1 v.2).0)
    faulty_unique Undefined Twice v w = absurd (w.2.1 (at Undefined w.0 v.0 w.1 v.1 v.2).1)
    faulty_unique Undefined Undefined v w = refl
    faulty_unique Undefined Full v w = absurd w
    faulty_unique Full g v w = absurd v

module _ (h : Header) (bs : List ℕ) where
  letter_unique : (c d m n : ℕ) → Letter h c m → Letter h d n → c ≡ d → m ≡ n
  letter_unique c d m n (inl p) (inl q) e = p.1 ∙ sym q.1
  letter_unique c d m n (inl p) (inr q) e = absurd (omega (arith, p.0, q.0))
  letter_unique c d m n (inr p) (inl q) e = absurd (omega (arith, p.0, q.0))
  letter_unique c d m n (inr p) (inr q) e = p.1 ∙ sym q.1

  pub name_fault : (e : DigitFault) → NameLine h bs → NameFault h bs e → ⊥
  name_fault e l (no_letter none) = none l.letter l.count l.digits l.kind l.starts
  name_fault e l (no_index c n rest d kind at f) =
      no_fault l.digits l.index l.name l.number d (subst (λ r. DigitFaultAt r d) (tail_same c l.letter bs rest l.digits at l.starts) f)
  name_fault e l (no_name c n rest v more kind at num bad) =
      let t = tail_same c l.letter bs rest l.digits at l.starts in
      let u = number_unique l.digits v l.index more l.name (subst (λ r. NumberAt r v more) t num) l.number in
      let q = letter_unique c l.letter n l.count kind l.kind (head_same c l.letter bs rest l.digits at l.starts) in
      bad (omega (arith, u.0, q, l.below)) (subst Named (sym u.1) l.named)

  pub name_fault_unique : (d e : DigitFault) → NameFault h bs d → NameFault h bs e → d ≡ e
  name_fault_unique d e (no_letter none) (no_letter none') = refl
  name_fault_unique d e (no_letter none) (no_index c n rest e' kind at f) = absurd (none c n rest kind at)
  name_fault_unique d e (no_letter none) (no_name c n rest v more kind at num bad) = refl
  name_fault_unique d e (no_index c n rest d' kind at f) (no_letter none) = absurd (none c n rest kind at)
  name_fault_unique d e (no_index c n rest d' kind at f) (no_index c' n' rest' e' kind' at' f') =
      fault_unique rest d e f (subst (λ r. DigitFaultAt r e) (sym (tail_same c c' bs rest rest' at at')) f')
  name_fault_unique d e (no_index c n rest d' kind at f) (no_name c' n' rest' v more kind' at' num bad) =
      absurd (no_fault rest' v more num d (subst (λ r. DigitFaultAt r d) (tail_same c c' bs rest rest' at at') f))
  name_fault_unique d e (no_name c n rest v more kind at num bad) (no_letter none) = refl
  name_fault_unique d e (no_name c n rest v more kind at num bad) (no_index c' n' rest' e' kind' at' f') =
      absurd (no_fault rest v more num e (subst (λ r. DigitFaultAt r e) (sym (tail_same c c' bs rest rest' at at')) f'))
  name_fault_unique d e (no_name c n rest v more kind at num bad) (no_name c' n' rest' v' more' kind' at' num' bad') = refl

pub header_unique : (bs : List ℕ) (h g : Header) → HeaderLine bs h → HeaderLine bs g → h ≡ g
header_unique bs h g p q =
    let t = append_cancel_left (codes "aag ") p.rest q.rest (sym p.starts ∙ q.starts) in
    let vs : List ℕ = h.max ∷ h.inputs ∷ h.latches ∷ h.outputs ∷ h.ands ∷ [] in
    let ws : List ℕ = g.max ∷ g.inputs ∷ g.latches ∷ g.outputs ∷ g.ands ∷ [] in
    let e = has_unique (codes "    \n") q.rest vs ws (subst (λ r. Has (form (codes "    \n")) r vs) t p.numbers) q.numbers in
    λ i. record { max = get_or (e i) 0 0; inputs = get_or (e i) 1 0; latches = get_or (e i) 2 0; outputs = get_or (e i) 3 0; ands = get_or (e i) 4 0 }

-- the items that begin a file
module _ (h : Header) (ls : List (List ℕ)) where
  pub item_same : (is js : List Item) → Begins h ls is → Begins h ls js → (k : ℕ) → k < length is → k < length js → get_or is k nothing ≡ get_or js k nothing
  item_same is js a b k l m = says_unique h k (get_or ls (1 + k) []) _ _ (a k l).says (b k m).says

  pub front_same : (is js : List Item) → Begins h ls is → Begins h ls js → length is ≤ length js → take (length is) js ≡ is
  front_same is js a b l =
      let long = length-take-le (length is) js l in
      ext_get_or nothing _ _ long (λ k m. get_or-take (length is) js k nothing (omega arith) ∙ sym (item_same is js a b k (omega arith) (omega arith)))

  pub items_same : (is js : List Item) → Begins h ls is → Begins h ls js → length is ≡ length js → is ≡ js
  items_same is js a b e = ext_get_or nothing is js e (λ k l. item_same is js a b k l (omega arith))

  -- no file goes on after its first fault
  pub no_further : (is js : List Item) (f : LineFault) → Begins h ls is → Begins h ls js → length is < length js → Faulty h (length is) (get_or ls (1 + length is) []) (Defined is) f → ⊥
  no_further is js f a b l w =
      let g = b (length is) l in
      faulty_good h (length is) (get_or ls (1 + length is) []) (Defined is) f (get_or js (length is) nothing) w g.says
      (subst (λ xs. Good h.max (Defined xs) (get_or js (length is) nothing)) (front_same is js a b (omega arith)) g.good)
