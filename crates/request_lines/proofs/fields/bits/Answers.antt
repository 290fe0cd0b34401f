use Rattle.std.proofs.Common.{List, ◌≡◌, ◌≢◌, Bool, None, Some, Option, Ok, Err, Result, IfOk, MatchOption, ℕ, map, vec_items, arith, refl, Vec}
use Rattle.std.specs.declared.alloc.AllocError.{AllocError}
use Rattle.std.specs.declared.alloc.Global.{Global}
use Rattle.request_lines.specs.Lines.{bit_digit, bits_text}
use Rattle.request_lines.proofs.Texts.{bits_after, no_bits_after}
use Rattle.request_lines.proofs.fields.bits.Goals as goal

carried : {tail parts : List ℕ} (r : Result (Option (Vec Bool Global)) AllocError) → ((bs : List Bool) → tail ≡ map bit_digit bs → parts ≡ bits_text bs) → (((bs : List Bool) → tail ≢ map bit_digit bs) → (bs : List Bool) → parts ≢ bits_text bs)
    → IfOk r (λ o. MatchOption o ((bs : List Bool) → tail ≢ map bit_digit bs) (λ v. tail ≡ map bit_digit (vec_items v))) → IfOk r (λ o. MatchOption o ((bs : List Bool) → parts ≢ bits_text bs) (λ v. parts ≡ bits_text (vec_items v)))
carried (Ok (Some v)) f g h = f (vec_items v) h
carried (Ok None) f g h = g h
carried (Err e) f g h = tt

pub returns-in-len1-up : goal.returns-in-len1-up
returns-in-len1-up c =
    carried c.digits.result (λ bs. bits_after c.args.parts.now _ bs c.requires (omega arith) refl) (no_bits_after c.args.parts.now _ c.requires (omega arith) refl) c.digits.ensures
