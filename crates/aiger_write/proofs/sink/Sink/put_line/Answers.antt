use Rattle.std.proofs.Common.{◌≡◌, ℕ, ◌+◌, cond, ltb, [], ◌∷◌, ◌++◌, length, get_or, drop, decimal, sym, refl, ap, ◌∙◌, arith}
use Rattle.std.proofs.lemmas.List.{drop_all}
use Rattle.std.proofs.lemmas.Bool.{cond-true, cond-false, lt-ltb, le-ltb}
use Rattle.aiger_write.specs.Texts.{line_text}
use Rattle.aiger_write.proofs.Puts.{Due-all, Due-at, Due-more, Due-none, line_more, line_longer, line_none, line_bound}
use Rattle.aiger_write.proofs.sink.Sink.put_line.Goals as goal
use Rattle.aiger_write.proofs.sink.Sink.put_line.Goals.{then-i-numbers, else-i-numbers}

pub loop-i-init : goal.loop-i-init
loop-i-init c = Due-all (line_text c.args.numbers.now) c.args.self.now

pub put_number-requires : goal.put_number-requires
put_number-requires c =
    omega (arith, line_longer c.args.numbers.now c.loop-i.i c.loop-i-test.true, Due-at (line_text c.args.numbers.now) (line_text (drop c.loop-i.i c.args.numbers.now)) c.args.self.now c.loop-i.self c.loop-i.invariant, c.requires)

pub put_byte-requires : goal.put_byte-requires
put_byte-requires c =
    omega (arith, line_longer c.args.numbers.now c.loop-i.i c.loop-i-test.true, c.put_number.ensures.at, Due-at (line_text c.args.numbers.now) (line_text (drop c.loop-i.i c.args.numbers.now)) c.args.self.now c.loop-i.self c.loop-i.invariant, c.requires)

pub loop-i-preserved : goal.loop-i-preserved
loop-i-preserved c =
    let ns = c.args.numbers.now in
    let i = c.loop-i.i in
    let rest = line_text (drop (i + 1) ns) in
    let byte : ℕ = cond (ltb (i + 1) (length ns)) 32 10 in
    let end : c.if-i-numbers.end ≡ byte = elim c.if-i-numbers.branch [
      | then-i-numbers w ↦ w.end-is ∙ sym (cond-true (ltb (i + 1) (length ns)) 32 10 (lt-ltb (i + 1) (length ns) w.if-i-numbers.true))
      | else-i-numbers w ↦ w.end-is ∙ sym (cond-false (ltb (i + 1) (length ns)) 32 10 (le-ltb (i + 1) (length ns) w.if-i-numbers.false))
    ] in
    let digits = decimal (get_or ns i 0) in
    let split = line_more ns i c.loop-i-test.true ∙ (λ k. digits ++ (sym end k ∷ rest)) in
    let number = Due-more (line_text ns) (line_text (drop i ns)) digits (c.if-i-numbers.end ∷ rest) c.args.self.now c.loop-i.self c.put_number.new.self c.loop-i.invariant split c.put_number.ensures in
    Due-more (line_text ns) (c.if-i-numbers.end ∷ rest) (c.if-i-numbers.end ∷ []) rest c.args.self.now c.put_number.new.self c.put_byte.new.self number refl c.put_byte.ensures

pub returns : goal.returns
returns c =
    let ns = c.args.numbers.now in
    let taken = Due-none (line_text ns) (line_text (drop c.loop-i.i ns)) c.args.self.now c.loop-i.self c.loop-i.invariant (ap line_text (drop_all c.loop-i.i ns (omega arith)) ∙ line_none) in
    record { taken = taken; limit = omega (arith, taken.at, line_bound ns (λ i l. (c.type_inv.numbers i).fits)) }
