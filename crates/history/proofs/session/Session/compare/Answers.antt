use Rattle.std.proofs.Common.{◌≡◌, length, replicate, ap, ◌∙◌, arith}
use lib.ListN.{length-replicate}
use Rattle.values.specs.Blocks.{block_algebra}
use Rattle.graph.specs.States.{state}
use Rattle.questions.specs.Comparison.{compared, blocks_after}
use Rattle.history_model.specs.Histories.{contrasted}
use Rattle.history.proofs.Running.{refilled}
use Rattle.history.proofs.session.Session.compare.Goals as goal

pub returns : goal.returns
returns g c =
    let s = state c.args.self.now.graph in
    let r = c.compare-comparison.result in
    let blank : c.as_mut_slice.result.now ≡ replicate c.args.places block_algebra.bottom = c.as_mut_slice.ensures.value ∙ c.in_ok-blocks.ensures in
    λ os. contrasted (c.compare-comparison.ensures.answer ∙ ap (compared s c.args.x c.args.y) (ap length blank ∙ length-replicate c.args.places block_algebra.bottom))
    (refilled _ _ _ (omega (arith, c.compare-comparison.auto.blocks, c.as_mut_slice.ensures.len)) ∙ c.compare-comparison.ensures.blocks ∙ ap (blocks_after r s) blank)
    c.compare-comparison.ensures.cases
