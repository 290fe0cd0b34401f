use Rattle.std.proofs.Common.{◌≡◌, length, replicate, refl, ap, ◌∙◌, arith}
use lib.ListN.{length-replicate}
use Rattle.std.specs.Vec.{with_items}
use Rattle.graph.specs.States.{state}
use Rattle.questions.specs.Evaluation.{evaluation, evaluated}
use Rattle.history.proofs.Running.{refilled}
use Rattle.history.proofs.session.Session.evaluate_in.Goals as goal

pub returns : goal.returns
returns g c =
    let k = g.K.Value.algebra in
    let s = state c.args.self.now.graph in
    let ins = c.args.inputs.now in
    let old = c.in_ok-values.values in
    let new = c.evaluate-done.new.values in
    let blank : c.as_mut_slice.result.now ≡ replicate c.args.places k.bottom = c.as_mut_slice.ensures.value ∙ c.in_ok-values.ensures in (
      c.evaluate-done.result,
      with_items old new,
      c.values_in.result,
      record {
        answer = c.evaluate-done.ensures.answer ∙ ap (evaluation s (length ins)) (ap length blank ∙ length-replicate c.args.places k.bottom);
        values = refilled old.len new old.items (omega (arith, c.evaluate-done.auto.values, c.as_mut_slice.ensures.len)) ∙ c.evaluate-done.ensures.values ∙ ap (evaluated k s ins) blank;
      },
      c.values_in.ensures,
      refl,
    )
