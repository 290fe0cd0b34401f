-- Digits at the front of a line, and the number that they write.
use Rattle.std.proofs.Common.{◌≡◌, ℕ, ◌-◌, ◌^◌, ◌<◌, ◌≤◌, List, ◌++◌, length, get_or, take, drop, decimal, sym, ap, ◌∙◌, add-zero, arith, length-drop, take-append-drop, length-take-le, get_or-drop, get_or-take, rules}
use Rattle.std.specs.Str.Parse.{digits_value}
use Rattle.std.specs.Int.{IsInRange}
use Rattle.std.specs.Char.{digit_value as value_of_digit}
use Rattle.std.proofs.lemmas.Fmt.{decimal-digits_value}
use Rattle.std.proofs.lemmas.Str.Parse.{IsNumeralModel, numerals_by_value, tells_by_index, digits_value_short}
use Rattle.aiger_lines.specs.Numbers.{AllDigits, Digit, NumberAt}

pub own : IsNumeralModel AllDigits (digits_value 10)
own = numerals_by_value AllDigits tells_by_index

pub front : (ds : List ℕ) (n : ℕ) → n ≤ length ds → ((k : ℕ) → k < n → Digit (get_or ds k 0)) → AllDigits (take n ds)
front ds n h d k l =
    let less : k < n = omega (arith, length-take-le n ds h) in
    rw get_or-take (d k less)

pub digit_value : (b : ℕ) → IsInRange 48 57 b → value_of_digit b ≡ b - 48
digit_value b h = search rules

-- at most six digits write a number below 10 ^ 6
pub front_lt : (ds : List ℕ) (n : ℕ) → n ≤ length ds → ((k : ℕ) → k < n → Digit (get_or ds k 0)) → n ≤ 6 → digits_value 10 (take n ds) < 10 ^ 6
front_lt ds n h d l = digits_value_short own (take n ds) 6 (front ds n h d) (omega (arith, length-take-le n ds h))

pub numeral : (bs : List ℕ) (n : ℕ) → n ≤ length bs → ((k : ℕ) → k < n → Digit (get_or bs k 0)) → 0 < n → n ≤ 7 → (get_or bs 0 0 ≡ 48 → n ≡ 1) → decimal (digits_value 10 (take n bs)) ≡ take n bs
numeral bs n h d some few zero-alone =
    let all = front bs n h d in
    let long = length-take-le n bs h in
    let first : get_or (take n bs) 0 0 ≡ get_or bs 0 0 = get_or-take n bs 0 0 some in
    let small = digits_value_short own (take n bs) 7 all (omega arith) in
    decimal-digits_value own (take n bs) all (omega arith) (λ e. long ∙ zero-alone (sym first ∙ e)) (omega arith)

-- the number at the front, where its digits are the first n bytes
pub number_at : (bs : List ℕ) (n : ℕ) → n ≤ length bs → ((k : ℕ) → k < n → Digit (get_or bs k 0)) → (n < length bs → Digit (get_or bs n 0) → ⊥) → 0 < n → n ≤ 7 → (get_or bs 0 0 ≡ 48 → n ≡ 1) → NumberAt bs (digits_value 10 (take n bs)) (drop n bs)
number_at bs n h d stops some few zero-alone =
    let long = length-take-le n bs h in
    record {
      text = sym (take-append-drop n bs) ∙ ap (λ ds. ds ++ drop n bs) (sym (numeral bs n h d some few zero-alone));
      short = digits_value_short own (take n bs) 7 (front bs n h d) (omega arith);
      whole = λ more. rw get_or-drop (rw add-zero (stops (omega (arith, length-drop n bs))));
    }
