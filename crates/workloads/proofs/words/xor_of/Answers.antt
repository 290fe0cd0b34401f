use Rattle.std.proofs.Common.{◌≡◌, ◌+◌, ◌∷◌, bit_xor, drop, sym, refl, ap, ◌∙◌}
use Rattle.std.proofs.lemmas.List.{drop_more, drop_all}
use Rattle.workloads.specs.Words.{words_of, xor_from}
use Rattle.workloads.proofs.words.xor_of.Goals as goal

pub loop-block-init : goal.loop-block-init
loop-block-init c = refl

pub loop-block-preserved : goal.loop-block-preserved
unfolding xor_from
loop-block-preserved c =
    let bs = c.args.blocks.now in
    let i = c.loop-block.block-index in
    let rest = drop (i + 1) bs in
    let here : drop i bs ≡ c.block-item.result ∷ rest = drop_more bs i c.block-item.result c.loop-block-test.true ∙ ap (λ z. z ∷ rest) (sym c.block-item.is) in
    ap (λ w. xor_from (bit_xor c.loop-block.xor w) (words_of rest)) c.bits-xor.ensures ∙ sym (ap (λ z. xor_from c.loop-block.xor (words_of z)) here) ∙ c.loop-block.invariant

pub returns : goal.returns
unfolding xor_from
returns c = sym (ap (λ z. xor_from c.loop-block.xor (words_of z)) (drop_all c.loop-block.block-index c.args.blocks.now c.loop-block-test.false)) ∙ c.loop-block.invariant
