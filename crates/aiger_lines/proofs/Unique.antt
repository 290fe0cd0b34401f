-- At most one number stands at the front of bytes, or one fault, and never both.
use Rattle.std.proofs.Common.{◌≡◌, ℕ, ◌+◌, ◌^◌, ◌<◌, List, ◌++◌, length, get_or, take, drop, decimal, sym, refl, ap, ◌∙◌, subst, ⊎_elim, add-zero, arith, length-append}
use Rattle.std.proofs.lemmas.Fmt.{digits_decimal, decimal_nonempty, first_decimal, decimal_digit, length-decimal-le, decimal_injective}
use Rattle.std.proofs.lemmas.List.{get_or_append_left, get_or-append-add, take_at, drop_at}
use Rattle.std.proofs.lemmas.Bool.{cases_order, cases_lt}
use Rattle.aiger_lines.specs.Numbers.{Digit, DigitFaultAt, NumberAt}
use Rattle.aiger_lines.specs.declared.number.DigitFault.{DigitFault}
use Rattle.aiger_lines.specs.declared.number.DigitFault.TheVariants.{NoDigit, LeadingZero, TooLong, Other}
use Rattle.aiger_lines.proofs.Digit.{own}

module _ (bs : List ℕ) (v : ℕ) (rest : List ℕ) (h : NumberAt bs v rest) where
  small : v < 2 ^ 64
  small = omega (arith, h.short)

  long : length bs ≡ length (decimal v) + length rest
  long = ap length h.text ∙ length-append (decimal v) rest

  -- a byte of the number
  in_number : (k : ℕ) → k < length (decimal v) → get_or bs k 0 ≡ get_or (decimal v) k 0
  in_number k l = ap (λ x. get_or x k 0) h.text ∙ get_or_append_left (decimal v) rest 0 k l

  digit : (k : ℕ) → k < length (decimal v) → Digit (get_or bs k 0)
  digit k l = subst Digit (sym (in_number k l)) (digits_decimal own v small k l)

  -- the byte after it
  stop : length (decimal v) < length bs → Digit (get_or bs (length (decimal v)) 0) → ⊥
  stop more d =
      let next : get_or bs (length (decimal v)) 0 ≡ get_or rest 0 0 = ap (λ x. get_or x (length (decimal v)) 0) h.text ∙ ap (λ n. get_or (decimal v ++ rest) n 0) (sym (add-zero (length (decimal v)))) ∙ get_or-append-add (decimal v) rest 0 0 in
      h.whole (omega (arith, long)) (subst Digit next d)

  pub no_fault : (e : DigitFault) → DigitFaultAt bs e → ⊥
  no_fault NoDigit f = f.1 (digit 0 (decimal_nonempty v small))
  no_fault LeadingZero f =
      ⊎_elim
      (λ one. stop (omega (arith, f.1.0)) (f.1.1 (length (decimal v)) (omega arith)))
      (λ two. ⊎_elim
      (λ none. omega (arith, ap length (decimal_digit v (omega arith))))
      (λ some. omega (arith, first_decimal v some small, in_number 0 (omega arith), f.0))
      (cases_lt v 1))
      (cases_lt (length (decimal v)) 2)
  no_fault TooLong f =
      let few = length-decimal-le 7 v (omega arith) h.short small in
      stop (omega (arith, f.1.0)) (f.1.1 (length (decimal v)) (omega arith))
  no_fault Other f = omega (arith, long, ap length f, decimal_nonempty v small)

no_longer : (bs : List ℕ) (v w : ℕ) (r s : List ℕ) → NumberAt bs v r → NumberAt bs w s → length (decimal v) < length (decimal w) → ⊥
no_longer bs v w r s h k l = stop bs v r h (omega (arith, long bs w s k)) (digit bs w s k (length (decimal v)) l)

pub number_unique : (bs : List ℕ) (v w : ℕ) (r s : List ℕ) → NumberAt bs v r → NumberAt bs w s → (v ≡ w) × (r ≡ s)
number_unique bs v w r s h k =
    ⊎_elim
    (λ same.
    let front : decimal v ≡ decimal w = sym (take_at (decimal v) r (length (decimal v)) refl) ∙ ap (take (length (decimal v))) (sym h.text ∙ k.text) ∙ take_at (decimal w) s (length (decimal v)) (sym same) in
    let back : r ≡ s = sym (drop_at (decimal v) r (length (decimal v)) refl) ∙ ap (drop (length (decimal v))) (sym h.text ∙ k.text) ∙ drop_at (decimal w) s (length (decimal v)) (sym same) in
    (decimal_injective v w (small bs v r h) (small bs w s k) front, back))
    (λ apart. absurd (⊎_elim (no_longer bs v w r s h k) (no_longer bs w v s r k h) apart))
    (cases_order (length (decimal v)) (length (decimal w)))

pub fault_unique : (bs : List ℕ) (d e : DigitFault) → DigitFaultAt bs d → DigitFaultAt bs e → d ≡ e
fault_unique bs NoDigit NoDigit f g = refl
fault_unique bs NoDigit LeadingZero f g = absurd (f.1 (g.1.1 0 (omega arith)))
fault_unique bs NoDigit TooLong f g = absurd (f.1 (g.1.1 0 (omega arith)))
fault_unique bs NoDigit Other f g = absurd (omega (arith, f.0, ap length g))
fault_unique bs LeadingZero NoDigit f g = absurd (g.1 (f.1.1 0 (omega arith)))
fault_unique bs LeadingZero LeadingZero f g = refl
fault_unique bs LeadingZero TooLong f g = absurd (g.0 f.0)
fault_unique bs LeadingZero Other f g = absurd (omega (arith, f.1.0, ap length g))
fault_unique bs TooLong NoDigit f g = absurd (g.1 (f.1.1 0 (omega arith)))
fault_unique bs TooLong LeadingZero f g = absurd (f.0 g.0)
fault_unique bs TooLong TooLong f g = refl
fault_unique bs TooLong Other f g = absurd (omega (arith, f.1.0, ap length g))
fault_unique bs Other NoDigit f g = absurd (omega (arith, g.0, ap length f))
fault_unique bs Other LeadingZero f g = absurd (omega (arith, g.1.0, ap length f))
fault_unique bs Other TooLong f g = absurd (omega (arith, g.1.0, ap length f))
fault_unique bs Other Other f g = refl
