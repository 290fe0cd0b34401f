use Rattle.std.proofs.Common.{◌<◌, length, take, drop, refl, ap, ◌∙◌, subst, arith, rules}
use native.Mathlib.Nat.{sub-zero}
use Rattle.std.proofs.lemmas.List.{take_rest}
use Rattle.aiger_check.specs.Text.{IsLine}
use Rattle.aiger_check.proofs.Cut.{at_end, here, more, on}
use Rattle.aiger_check.proofs.reader.Reader.next_bytes.Goals as goal

pub returns-then-is_empty : goal.returns-then-is_empty
returns-then-is_empty c =
    let r = c.args.self.now in
    let tr = take_rest r.bytes.now r.place in
    (at_end r.bytes.now r.place r.number r.whole (search rules), refl)

pub invariant_of-self : goal.invariant_of-self
invariant_of-self c =
    let r = c.args.self.now in
    let tr = take_rest r.bytes.now r.place in
    let some : 0 < length (drop r.place r.bytes.now) = search rules in
    let line = subst (λ l. IsLine l c.line_len-n.result) tr c.line_len-n.ensures in
    record { inside = search rules; counted = omega (arith, line.some some); whole = on r.bytes.now r.place r.number r.whole c.line_len-n.result some line }

pub returns : goal.returns
returns c =
    let r = c.args.self.now in
    let n = c.line_len-n.result in
    let tr = take_rest r.bytes.now r.place in
    let some : 0 < length (drop r.place r.bytes.now) = search rules in
    let line = subst (λ l. IsLine l n) tr c.line_len-n.ensures in (
      more r.bytes.now r.place r.number r.whole n some line,
      rw sub-zero (ap (take n) tr) ∙ here r.bytes.now r.place r.number r.whole n some line,
      refl,
      refl,
    )
