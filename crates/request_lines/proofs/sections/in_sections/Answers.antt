use Rattle.std.proofs.Common.{ℕ, List, [], ◌∷◌, vec_items, ◌≡◌, ◌++◌, map, Option, sym, ap, ◌∙◌, refl, subst}
use Rattle.std.specs.Borrow.{Bor}
use Rattle.std.proofs.lemmas.List.{map_push, map-id}
use Rattle.std.proofs.lemmas.Iterator.Adapters.{YieldsList-from_vec}
use Rattle.std.proofs.lemmas.Iterator.Consumers.{YieldsList-end}
use Rattle.request_lines.specs.declared.line.Line.{Line}
use Rattle.request_lines.specs.Sections.{Says, all_lines}
use Rattle.request_lines.specs.Split.{lines_of, numbered}
use Rattle.request_lines.proofs.SectionLines.{says_push}
use Rattle.request_lines.proofs.sections.in_sections.Goals as goal

pub loop-number-preserved : goal.loop-number-preserved
loop-number-preserved c =
    let f : ℕ × Bor (List ℕ) → ℕ × List ℕ = λ x. (x.0, x.1.now) in
    let S : List (ℕ × List ℕ) → List (ℕ × Option Line) → Type 0 = λ x y. Says x y in
    record {
      lines = subst (λ z. S z (all_lines c.push.new.self)) (sym (map_push f c.loop-number.yielded (c.in-Some.number, c.in-Some.bytes)))
          (subst (S (map f c.loop-number.yielded ++ ((c.in-Some.number, c.in-Some.bytes.now) ∷ []))) (sym c.in_ok-push.ensures.lines)
          (says_push (map f c.loop-number.yielded) (all_lines c.loop-number.sections) (c.in-Some.number, c.in-Some.bytes.now) _ c.loop-number.invariant.lines refl c.in_ok-parse.ensures.answer));
      inside = c.in_ok-push.ensures.inside c.loop-number.invariant.inside;
    }

pub returns : goal.returns
returns c =
    let f : ℕ × Bor (List ℕ) → ℕ × List ℕ = λ x. (x.0, x.1.now) in
    let items = vec_items c.in_ok-items.items in
    let end = YieldsList-end (YieldsList-from_vec items (search) (search)) c.loop-number.yielded c.loop-number.number-iterator c.loop-number.yielded_by c.next.result c.next.new.self c.in-None.is c.next.ensures.steps in
    let all : map f c.loop-number.yielded ≡ numbered 1 (lines_of c.args.text.now) = ap (map f) (sym (map-id c.loop-number.yielded) ∙ end.0) ∙ c.in_ok-items.ensures.answer in
    let S : List (ℕ × List ℕ) → Type 0 = λ x. Says x (all_lines c.loop-number.sections) in
    record { answer = record { lines = subst S all c.loop-number.invariant.lines; inside = c.loop-number.invariant.inside } }
