use Rattle.std.proofs.Common.{List, ℕ, ◌++◌, vec_items, sym, subst, ◌∙◌, ap, arith}
use Rattle.std.specs.List.{AllByRecursion}
use Rattle.request_lines.specs.Lines.{Short, numbers_text}
use Rattle.request_lines.proofs.Texts.{tail_cut, not_numbers, numbers_more, short_push}
use Rattle.request_lines.proofs.numbers.numbers.Goals as goal

pub returns-in_default-number : goal.returns-in_default-number
returns-in_default-number c =
    let i = c.loop-left.invariant in
    record { answer = not_numbers c.args.bytes.now (vec_items c.loop-left.found) c.loop-left.left.now c.cut.result.0.now c.cut.result.1.now i.so_far i.short i.spaced (omega arith) (tail_cut c.loop-left.left.now _ _ c.cut.ensures) c.in_default-number.ensures.answer }

pub loop-left-preserved : goal.loop-left-preserved
loop-left-preserved c =
    let i = c.loop-left.invariant in
    let more = numbers_more c.args.bytes.now (vec_items c.loop-left.found) c.loop-left.left.now c.cut.result.0.now c.cut.result.1.now c.in-Some.n i.so_far i.spaced (omega arith) (tail_cut c.loop-left.left.now _ _ c.cut.ensures) c.in-Some.ensures.answer in
    let items = c.in_ok-push.ensures.items in
    record {
      so_far = more ∙ ap (λ z. numbers_text z ++ c.cut.result.1.now) (sym items);
      short = (let P : List ℕ → Type 0 = λ z. AllByRecursion Short z in subst P (sym items) (short_push (vec_items c.loop-left.found) c.in-Some.n i.short (omega arith)));
      spaced = c.cut.ensures.more;
    }
