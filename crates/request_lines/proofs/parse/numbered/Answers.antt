use Rattle.std.proofs.Common.{◌≡◌, List, ℕ, Option, Ok, Err, Result, IfOk, vec_items, subst}
use Rattle.std.specs.declared.alloc.AllocError.{AllocError}
use Rattle.std.specs.List.{AllByRecursion}
use Rattle.request_lines.specs.declared.line.Line.{Line}
use Rattle.request_lines.specs.declared.word.Word.{Word}
use Rattle.request_lines.specs.Lines.{Short, numbers_text}
use Rattle.request_lines.specs.Parses.{Numbered, PartsParsed, NumbersParsed}
use Rattle.request_lines.proofs.Parsing.{by_parts, none_by_parts}
use Rattle.request_lines.proofs.parse.numbered.Goals as goal

pub returns-in_default : goal.returns-in_default
returns-in_default c =
    let h = rw c.in_default.is at c.in_ok-numbers.ensures.answer in
    none_by_parts c.args.word c.args.parts.now c.requires.numbered h

made : (w : Word) (bs ns : List ℕ) (r : Result (Option Line) AllocError) → Numbered w → bs ≡ numbers_text ns → AllByRecursion Short ns → IfOk r (NumbersParsed w ns) → IfOk r (PartsParsed w bs)
made w bs ns (Ok o) n e a h = by_parts w bs ns o n e a h
made w bs ns (Err e) n f a h = tt

pub returns : goal.returns
returns c =
    let h = rw c.in-Some.is at c.in_ok-numbers.ensures.answer in
    let P : List ℕ → Type 0 = λ z. IfOk c.by_numbers.result (NumbersParsed c.args.word z) in
    made c.args.word c.args.parts.now (vec_items c.in-Some.numbers) c.by_numbers.result c.requires.numbered h.1 h.0 (subst P c.as_slice.ensures.value c.by_numbers.ensures)
