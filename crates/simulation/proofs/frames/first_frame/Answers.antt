use Rattle.std.proofs.Common.{rules, ◌≡◌, ℕ, true, false, List, None, Option, sym, ap, ◌∙◌, subst, Bor}
use Rattle.std.specs.List.{list_all}
use Rattle.std.proofs.lemmas.Bool.{false≢true}
use Rattle.simulation.specs.Frames.{binary, bits, Ends, FirstFrame}
use Rattle.simulation.proofs.FrameLines.{shown, all_binary, front, begun}
use Rattle.simulation.proofs.frames.first_frame.Goals as goal

pub returns-in_err-rest : goal.returns-in_err-rest
returns-in_err-rest c =
    let split = c.in_ok-frame.ensures.cases in
    let P : Option (Bor (List ℕ) × Bor (List ℕ)) → Type 0 = FirstFrame c.args.inputs c.args.bytes.now in
    let e : c.from_residual-in_err-rest.result ≡ None = search rules in
    subst P (sym e)
    (λ f rest b.
    let E : List ℕ → Type 0 = λ xs. Ends xs rest in
    c.in_err-rest.ensures rest (subst E (sym (front c.args.inputs c.args.bytes.now f rest b).1 ∙ sym split.2) b.ends))

pub returns-then-are_digits : goal.returns-then-are_digits
returns-then-are_digits c =
    let split = c.in_ok-frame.ensures.cases in
    let all : list_all binary c.in_ok-frame.frame.now ≡ true = search rules in (
      bits c.in_ok-frame.frame.now,
      sym (shown c.in_ok-frame.frame.now all),
      begun c.args.inputs c.args.bytes.now c.in_ok-frame.frame.now c.in_ok-frame.after.now c.in_ok-rest.rest.now split.1 split.2 split.3 all c.in_ok-rest.ensures,
    )

pub returns-else-are_digits : goal.returns-else-are_digits
returns-else-are_digits c f rest b =
    let split = c.in_ok-frame.ensures.cases in
    let none : list_all binary c.in_ok-frame.frame.now ≡ false = search rules in
    false≢true (sym none ∙ ap (list_all binary) (split.1 ∙ (front c.args.inputs c.args.bytes.now f rest b).0) ∙ all_binary f)
