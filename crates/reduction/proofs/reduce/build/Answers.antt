use Rattle.std.proofs.Common.{rules, Err, sym, refl, ◌∙◌, subst}
use Rattle.history_model.specs.Histories.{new_world}
use Rattle.reduction.specs.declared.error.ReduceError.{ReduceError}
use Rattle.reduction.specs.declared.error.ReduceError.TheVariants.{Refused, Memory}
use Rattle.reduction.specs.declared.error.Refused.TheVariants.{File, Write}
use Rattle.reduction.specs.Reductions.{Reduces}
use Rattle.reduction.proofs.Reducing.{file_then_text, file_refused, text_refused, both_taken, refused_as}
use Rattle.reduction.proofs.reduce.build.Goals as goal

pub returns-then-bytes-limits-clause-refused : goal.returns-then-bytes-limits-clause-refused
returns-then-bytes-limits-clause-refused g c = λ spare spare_max.
    let m = g.S.NodeStore.model in
    let E : ReduceError → Type 0 = λ z. Reduces (g.R.RuleSet.replies c.args.rules) c.args.bytes.now c.args.limits (m.limit c.args.store) (m.max_edge c.args.store) spare spare_max (Err z) in
    subst E (sym c.into.ensures) (Reduces.too_large c.if-bytes-limits.true)

pub returns-in_err-graph-clause-refused : goal.returns-in_err-graph-clause-refused
returns-in_err-graph-clause-refused g c = refused_as _ c.from_residual.result (Memory c.in_err-graph.field-0.0) (search rules) (λ spare spare_max. Reduces.out_of_memory)

pub take_apart-added-requires : goal.take_apart-added-requires
take_apart-added-requires g c =
    let m = g.S.NodeStore.model in
    let f = file_then_text g.V.Value.algebra _ (new_world c.of-room.result.inputs (m.limit c.args.store) (m.max_edge c.args.store)) c.args.bytes _ _ _ _ _ refl c.in_ok-graph.ensures.ran in
    (f.answer, f.map, f.outputs, _, _, f.told_is)

pub returns-in_err-added-clause-refused : goal.returns-in_err-added-clause-refused
returns-in_err-added-clause-refused g c =
    let m = g.S.NodeStore.model in
    refused_as _ c.from_residual-in_err-added.result (Refused (File c.in_err-added.field-0.0)) (search rules) (λ spare spare_max.
    file_refused g.V.Value.algebra _ (g.R.RuleSet.lawful c.args.rules) c.args.bytes c.args.limits _ _ (m.roomy c.args.store) c.of-room.result c.of-room.ensures.answer c.if-bytes-limits.false c.take_apart-added.result _ _ c.take_apart-added.ensures c.in_ok-graph.ensures.ran
    spare spare_max c.in_err-added.field-0.0 c.in_err-added.was)

pub returns-in_err-length-clause-refused : goal.returns-in_err-length-clause-refused
returns-in_err-length-clause-refused g c =
    let m = g.S.NodeStore.model in
    refused_as _ c.from_residual-in_err-length.result (Refused (Write c.in_err-length.field-0.0)) (search rules) (λ spare spare_max.
    text_refused g.V.Value.algebra _ (g.R.RuleSet.lawful c.args.rules) c.args.bytes c.args.limits _ _ (m.roomy c.args.store) c.of-room.result c.of-room.ensures.answer c.if-bytes-limits.false c.take_apart-added.result _ _ c.take_apart-added.ensures c.in_ok-graph.ensures.ran
    spare spare_max c.in_ok-added.field-0 c.in_err-length.field-0.0 c.in_ok-added.was c.in_err-length.was)

pub returns-clause-wrote : goal.returns-clause-wrote
returns-clause-wrote g c =
    let m = g.S.NodeStore.model in
    both_taken g.V.Value.algebra _ (g.R.RuleSet.lawful c.args.rules) c.args.bytes c.args.limits _ _ (m.roomy c.args.store) c.of-room.result c.of-room.ensures.answer c.if-bytes-limits.false c.take_apart-added.result _ _ c.take_apart-added.ensures c.in_ok-graph.ensures.ran
    c.in_ok-added.field-0 c.in_ok-length.length _ _ c.in_ok-added.was c.in_ok-length.was c.truncate.ensures.items (c.shrink_to_fit.ensures.items ∙ c.truncate-2.ensures.items)
