use Rattle.std.proofs.Common.{◌≡◌, length, take, is_ok, Decides, sym, ap, ◌∙◌, subst}
use Rattle.std.proofs.lemmas.Bool.{false≢true}
use Rattle.graph.specs.States.{state}
use Rattle.aiger_read.specs.RoundTrip.{Again}
use Rattle.reduction.specs.Rereads.{Rereadable}
use Rattle.aiger_write.specs.Writing.{text_of}
use Rattle.reduction.specs.Reductions.{Same}
use Rattle.reduction.proofs.Rereading.{one_file, one_answer, reread_again, same_again, read_back}
use Rattle.reduction.proofs.reduce.reread.Goals as goal
use Rattle.reduction.proofs.reduce.reread.Goals.{then-is_ok, else-is_ok, then-same_pairs, else-same_pairs}

pub only_read-added-requires : goal.only_read-added-requires
only_read-added-requires g c =
    let f = one_file g.V.Value.algebra _ _ c.args.text _ _ _ _ c.in_ok-again.ensures.ran in
    (f.answer, f.map, f.outputs, f.told_is)

pub returns : goal.returns
returns g c =
    let m = g.S.NodeStore.model in
    let lawful = g.R.RuleSet.lawful c.args.rules in
    let os = c.args.outputs.now in
    let f = one_file g.V.Value.algebra _ _ c.args.text _ _ _ _ c.in_ok-again.ensures.ran in
    let o = one_answer _ _ _ _ _ _ _ c.only_read-added.ensures.1 f.told_is in
    let ok = c.is_ok.ensures.value ∙ ap is_ok o.0 in
    let t = state c.args.graph.now in
    let here : Type 0 = Again t os f.answer (state c.in_ok-again.again) f.outputs in
    let again : Rereadable (g.R.RuleSet.replies c.args.rules) t os c.args.text.now c.args.limits (m.limit c.args.spare) → here =
    λ p. reread_again _ lawful _ _ _ c.args.limits _ _ _ _ _ (m.roomy c.args.spare) c.inputs.ensures.answer p f in
    let as_told : c.args.text.now ≡ text_of t os → Same (g.R.RuleSet.replies c.args.rules) t os c.args.limits (m.limit c.args.spare) (m.max_edge c.args.spare) → here =
    λ x p. same_again _ t os _ c.args.limits _ _ _ _ _ c.inputs.ensures.answer x f p in
    elim c.if-same_pairs.branch [
      | then-same_pairs w ↦ elim c.if-is_ok.branch [
        | then-is_ok v ↦
            (let front = subst (λ l. Decides w.begins_with.result (take (length os) l ≡ os)) (w.as_slice.ensures.value ∙ o.1) w.begins_with.ensures in
            let yes = λ (a : here). w.result-is ∙ front.1 a.outputs in (
              (λ x. ((λ e. read_back _ lawful _ os _ c.args.limits _ _ _ _ _ (m.roomy c.args.spare) c.inputs.ensures.answer c.inputs.ensures.limit x f (sym ok ∙ v.if-is_ok.true) (v.same_pairs.ensures.0 (sym v.value-is ∙ w.if-same_pairs.true)) (front.0 (sym w.result-is ∙ e))), (λ p. yes (as_told x p)))),
              (λ p. yes (again p)),
            ))
        | else-is_ok v ↦ absurd (false≢true (sym v.if-is_ok.false ∙ sym v.value-is ∙ w.if-same_pairs.true))
      ]
      | else-same_pairs w ↦
          (let no : here → ⊥ = λ a. elim c.if-is_ok.branch [
            | then-is_ok v ↦ false≢true (sym w.if-same_pairs.false ∙ v.value-is ∙ v.same_pairs.ensures.1 (sym a.pairs))
            | else-is_ok v ↦ false≢true (sym v.if-is_ok.false ∙ ok ∙ ap is_ok a.answer)
          ] in (
            (λ x. ((λ e. absurd (false≢true (sym w.if-same_pairs.false ∙ sym w.result-is ∙ e))), (λ p. absurd (no (as_told x p))))),
            (λ p. absurd (no (again p))),
          ))
    ]
