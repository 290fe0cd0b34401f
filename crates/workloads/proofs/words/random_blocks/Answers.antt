use Rattle.std.proofs.Common.{◌≡◌, refl, ap, ◌∙◌, arith}
use Rattle.workloads.specs.Words.{words_of, words, stepped}
use Rattle.workloads.proofs.Drafts.{more_words}
use Rattle.workloads.proofs.words.random_blocks.Goals as goal

pub loop-block-init : goal.loop-block-init
unfolding words stepped
loop-block-init c = (ap words_of c.new-blocks.ensures.items, refl)

pub loop-block-preserved : goal.loop-block-preserved
loop-block-preserved c =
    let inv = c.loop-block.invariant in
    let more = more_words c.loop-block._block c.loop-block.blocks.items c.push.new.self.items c.new.result c.args.random.now.state c.loop-block.random.state c.next.new.self.state inv.0 inv.1 c.next.ensures.state (c.new.ensures ∙ c.next.ensures.answer) c.in_ok-push.ensures.items in
    (more.0, more.1)

pub returns : goal.returns
returns c = let e : c.loop-block._block ≡ c.args.count = omega (arith, c.loop-block-test.false, c.loop-block.auto._block-end) in c.loop-block.invariant.0 ∙ ap (λ n. words n c.args.random.now.state) e
