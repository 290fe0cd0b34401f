use Rattle.std.proofs.Common.{◌≡◌, ℕ, ◌<◌, ◌^◌, List, Option, Some, None, Ok, Err, Result, MatchOption, ◌≢◌, decimal, sym, subst, ap, ◌∙◌, arith}
use Rattle.std.specs.Result.{MatchResult, result_ok}
use Rattle.std.specs.Borrow.{Bor}
use Rattle.std.specs.declared.str.Utf8Error.{Utf8Error}
use Rattle.std.specs.Str.{IsUtf8, IsValidUpTo, valid_up_to}
use Rattle.std.proofs.lemmas.Bool.{false≢true}
use Rattle.std.proofs.lemmas.Fmt.{IsAscii-decimal, parse-decimal}
use Rattle.std.proofs.lemmas.Str.{IsUtf8-from_ascii}
use Rattle.std.proofs.lemmas.Slice.Eq.{bytes_eq-Decides}
use Rattle.request_lines.proofs.number.number.Goals as goal

-- what holds of a result, by what `ok` makes of it
of_none : {A E : Type 0} (P : A → Type 0) (Q : E → Type 0) (r : Result A E) → None ≡ result_ok r → MatchResult r P Q → (e : E) × Q e
of_none P Q (Ok a) h m = (let u : ⊥ = cc in absurd u)
of_none P Q (Err e) h m = (e, m)

of_some : {A E : Type 0} (P : A → Type 0) (Q : E → Type 0) (r : Result A E) (a : A) → Some a ≡ result_ok r → MatchResult r P Q → P a
of_some P Q (Ok b) a h m = let e : b ≡ a = cc in subst P e m
of_some P Q (Err e) a h m = (let u : ⊥ = cc in absurd u)

module _ (bs : List ℕ) where
  abbrev Whole : Bor (List ℕ) → Type 0
  Whole s = (s.now ≡ bs) × IsUtf8 bs

  abbrev Broken : Utf8Error → Type 0
  Broken e = (¬ IsUtf8 bs) × IsValidUpTo bs (valid_up_to e)

abbrev Number : List ℕ → Option ℕ → Type 0
Number bs o = MatchOption o ((n : ℕ) → n < 2 ^ 32 → bs ≢ decimal n) (λ n. bs ≡ decimal n)

pub returns-in_err-text : goal.returns-in_err-text
returns-in_err-text c =
    let A : List ℕ → Type 0 = λ z. IsUtf8 z in
    let not_text = of_none (Whole c.args.bytes.now) (Broken c.args.bytes.now) c.from_utf8.result c.in_err-text.ensures.value c.from_utf8.ensures.cases in
    record { answer = subst (Number c.args.bytes.now) (sym c.from_residual.ensures) (λ n l e. not_text.1.0 (subst A (sym e) (IsUtf8-from_ascii (decimal n) (IsAscii-decimal n (omega arith))))) }

pub returns-in_err-n : goal.returns-in_err-n
returns-in_err-n c =
    let text = of_some (Whole c.args.bytes.now) (Broken c.args.bytes.now) c.from_utf8.result c.in_ok-text.text c.in_ok-text.ensures.value c.from_utf8.ensures.cases in
    record {
      answer = subst (Number c.args.bytes.now) (sym c.from_residual-in_err-n.ensures) (λ n l e.
          let p = ap result_ok (parse-decimal 32 n c.in_ok-text.text.now c.parse.result l (omega arith) (text.0 ∙ e) c.parse.ensures.value.0) in
          let q = c.in_err-n.ensures.value in
          cc);
    }

pub returns-else-eq : goal.returns-else-eq
returns-else-eq c =
    let text = of_some (Whole c.args.bytes.now) (Broken c.args.bytes.now) c.from_utf8.result c.in_ok-text.text c.in_ok-text.ensures.value c.from_utf8.ensures.cases in
    record {
      answer = λ n l e.
          let p = ap result_ok (parse-decimal 32 n c.in_ok-text.text.now c.parse.result l (omega arith) (text.0 ∙ e) c.parse.ensures.value.0) in
          let v = c.in_ok-n.ensures.value in
          let q : c.in_ok-n.n ≡ n = cc in
          let f : c.format.result.now ≡ c.in_ok-text.text.now = c.format.ensures.text ∙ ap decimal q ∙ sym (text.0 ∙ e) in
          false≢true (sym c.if-eq.false ∙ c.eq.ensures ∙ (bytes_eq-Decides c.format.result.now c.in_ok-text.text.now).1 f);
    }
