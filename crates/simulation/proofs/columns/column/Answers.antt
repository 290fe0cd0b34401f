use Rattle.std.proofs.Common.{◌≡◌, ℕ, Bool, true, false, [], get_or, sym, refl, ◌∙◌, arith}
use Rattle.values.specs.Blocks.{same_bits}
use Rattle.values.specs.Digits.{pack}
use Rattle.simulation.specs.Columns.{set_at, shown}
use Rattle.simulation.proofs.Packed.{pack_all, place_fits, placed, passed, none_past, digit_read}
use Rattle.simulation.proofs.columns.column.Goals as goal
use Rattle.simulation.proofs.columns.column.Goals.{then-is_set, else-is_set}

pub loop-i-init : goal.loop-i-init
unfolding pack
loop-i-init c = refl

pub overflow_add-bits : goal.overflow_add-bits
overflow_add-bits c = omega (arith, place_fits (λ k. set_at (get_or (shown c.args.frames.now) k []) c.args.input) c.loop-i.i c.loop-i.bits (omega arith) c.loop-i.invariant)

pub loop-i-preserved : goal.loop-i-preserved
loop-i-preserved c =
    let f : ℕ → Bool = λ k. set_at (get_or (shown c.args.frames.now) k []) c.args.input in
    elim c.if-is_set.branch [
      | then-is_set w ↦ w.bits-is ∙ placed f c.loop-i.i c.loop-i.bits (omega arith) c.loop-i.invariant (digit_read c.args.frames.now c.loop-i.i c.args.input _ c.is_set.result true (omega arith) c.is_set.ensures w.if-is_set.true)
      | else-is_set w ↦ w.bits-is ∙ passed f c.loop-i.i c.loop-i.bits c.loop-i.invariant (digit_read c.args.frames.now c.loop-i.i c.args.input _ c.is_set.result false (omega arith) c.is_set.ensures w.if-is_set.false)
    ]

pub returns : goal.returns
returns c =
    let f : ℕ → Bool = λ k. set_at (get_or (shown c.args.frames.now) k []) c.args.input in
    let all : pack f 64 ≡ pack f c.loop-i.i = pack_all f c.loop-i.i 64 (omega arith) (λ i h. none_past c.args.frames.now c.args.input i (omega arith)) in
    same_bits (c.new.ensures ∙ c.loop-i.invariant ∙ sym all)
