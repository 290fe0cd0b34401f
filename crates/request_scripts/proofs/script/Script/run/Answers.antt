use Rattle.std.proofs.Common.{◌≡◌, List, ℕ, min, map, Ok, Err, Result, IfOk, vec_items, ap, ◌∙◌, subst, Vec, ◌+◌, ◌*◌, ◌≤◌, refl, arith}
use Rattle.std.specs.declared.alloc.AllocError.{AllocError}
use Rattle.std.specs.declared.alloc.Global.{Global}
use Rattle.values.specs.Algebra.{BooleanAlgebra}
use Rattle.rules.specs.RuleLists.{by_rules}
use Rattle.rules.proofs.RuleLists.{rules_lawful}
use Rattle.graph_model.proofs.Requests.{empty_well}
use Rattle.request_scripts.proofs.Counting.{nodes_counted}
use Rattle.request_scripts.proofs.Rooming.{rooms}
use Rattle.rulesets.specs.Levels.{level_rules}
use Rattle.graph.specs.States.{state}
use Rattle.graph_model.specs.Graphs.{State}
use Rattle.history_model.specs.declared.request.Request.{Request}
use Rattle.history_model.specs.Histories.{Told, told, new_world}
use Rattle.history_model.specs.Law.{Ran}
use Rattle.request_lines.specs.declared.line.Opening.{Opening}
use Rattle.request_scripts.specs.declared.step.Step.{Step}
use Rattle.request_scripts.specs.Steps.{Asks}
use Rattle.request_scripts.specs.Scripts.{script_text, Played}
use Rattle.request_scripts.proofs.script.Script.run.Goals as goal

made : {V W : Type 0} (k : BooleanAlgebra V) (j : BooleanAlgebra W) (o : Opening) (steps steps' steps'' : List Step) (limit limit' max_edge inputs : ℕ) (rs rs' : List (Request W)) (answers answers' : List (Told W)) (t : State) (r : Result (Vec ℕ Global) AllocError)
    → limit ≤ 1000000 → 2 * (limit + 4096) + 1 ≤ max_edge → steps' ≡ steps → Asks o 0 steps' rs → rs' ≡ rs → Ran k j (by_rules (level_rules o.level)) (new_world o.inputs limit max_edge) rs' answers t → limit' ≡ limit → inputs ≡ min o.inputs 4096 → steps'' ≡ steps → answers' ≡ answers
    → IfOk r (λ v. vec_items v ≡ script_text inputs limit' 0 steps'' answers') → IfOk r (λ v. Played k j o steps limit max_edge (vec_items v))
made k j o steps steps' steps'' limit limit' max_edge inputs rs rs' answers answers' t (Err e) few y p a q h l i s m f = tt
made {W = W} k j o steps steps' steps'' limit limit' max_edge inputs rs rs' answers answers' t (Ok v) few y p a q h l i s m f =
    let A : List Step → Type 0 = λ z. Asks o 0 z rs in
    let R : List (Request W) → Type 0 = λ z. Ran k j (by_rules (level_rules o.level)) (new_world o.inputs limit max_edge) z answers t in
    let b = by_rules (level_rules o.level) in
    let run = subst R q h in
    let v = new_world o.inputs limit max_edge in
    record {
      requests = rs;
      answers = answers;
      graph = t;
      asks = subst A p a;
      ran = run;
      counted = nodes_counted b (rules_lawful (level_rules o.level)) j rs run.moments v run.last (min o.inputs 4096) limit 0 (empty_well b v.graph refl (omega arith)) refl refl refl (omega arith) run.history;
      roomy = λ l. rooms b (rules_lawful (level_rules o.level)) j o 0 steps rs run.moments v run.last (subst A p a)
          (record { well = empty_well b v.graph refl (omega arith); inputs = refl; limit = omega arith; within = omega arith; few = omega arith }) run.history;
      told = f ∙ ap (λ z. script_text inputs z 0 steps'' answers') l ∙ ap (λ z. script_text z limit 0 steps'' answers') i ∙ ap (λ z. script_text (min o.inputs 4096) limit 0 z answers') s ∙ ap (script_text (min o.inputs 4096) limit 0 steps) m;
    }

pub returns : goal.returns
returns g c =
    let m = g.S.NodeStore.model in
    record {
      text = made g.V.Value.algebra g.W.Value.algebra c.args.self.now.opening (vec_items c.args.self.now.steps) c.as_slice.result.now c.as_slice-3.result.now (m.limit c.args.store) c.limit-limit.result (m.max_edge c.args.store) c.min.result
          (vec_items c.in_ok-requests.requests) c.as_slice-2.result.now (map told (vec_items c.in_ok-_graph.answers)) (map told c.as_slice-4.result.now) (state c.in_ok-_graph._graph) c.script_lines.result
          (m.capped c.args.store) (m.roomy c.args.store) c.as_slice.ensures.value c.in_ok-requests.ensures c.as_slice-2.ensures.value c.in_ok-_graph.ensures.ran c.limit-limit.ensures c.min.ensures c.as_slice-3.ensures.value (ap (map told) c.as_slice-4.ensures.value) c.script_lines.ensures;
    }
