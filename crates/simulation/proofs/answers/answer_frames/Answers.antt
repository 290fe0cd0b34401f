use Rattle.std.proofs.Common.{rules, ◌≡◌, ◌≤◌, length, sym, ap, ◌∙◌, arith, List, ℕ, Bor}
use Rattle.std.specs.Slice.Iter.{chunks_rest}
use Rattle.std.proofs.lemmas.List.{length-map, take_at}
use Rattle.values.specs.Blocks.{block_algebra}
use Rattle.graph_model.specs.Graphs.{nodes}
use Rattle.graph.specs.States.{state}
use Rattle.questions.specs.Evaluation.{evaluated}
use Rattle.simulation.specs.Columns.{shown, frame_columns}
use Rattle.simulation.specs.Answers.{output_values}
use Rattle.simulation.proofs.Groups.{group_answers, group_more}
use Rattle.simulation.proofs.answers.answer_frames.Goals as goal

pub loop-group-preserved : goal.loop-group-preserved
loop-group-preserved g c =
    let s = state c.args.graph.now in
    let now = c.loop-group.invariant in
    let fs = shown c.in-Some.group.now in
    let os = c.args.outputs.now in
    let cols = c.as_slice.result.now in
    let old = c.loop-group.values.items in
    let vs = c.as_slice-in-loop-group.result.now in
    let bs = c.as_slice-in-loop-group-2.result.now in
    let went = c.in-Some.ensures.steps in
    let few : length c.in-Some.group.now ≤ 64 = search rules in
    let n : length cols ≡ s.inputs = search rules in
    let l : length c.as_mut_slice.result.now ≡ s.inputs = search rules in
    let d : cols ≡ frame_columns fs (length cols) =
    c.as_slice.ensures.value ∙ take_at c.fill_columns.new.columns _ c.loop-group.columns.len (omega (arith, l, now.2, c.fill_columns.auto.columns)) ∙ c.fill_columns.ensures ∙ ap (frame_columns fs) (l ∙ sym n) in
    let m : length old ≡ nodes s = search rules in
    let e : vs ≡ evaluated block_algebra s cols old =
    c.as_slice-in-loop-group.ensures.value ∙ take_at c.evaluate.new.values _ c.loop-group.values.len (omega (arith, m, now.3, ap length c.as_mut_slice-in-loop-group.ensures.value, c.evaluate.auto.values)) ∙ c.evaluate.ensures.values ∙ ap (evaluated block_algebra s cols) c.as_mut_slice-in-loop-group.ensures.value in
    let b : bs ≡ output_values vs os = search rules in
    let all = length-map c.in-Some.group.now (λ (f : Bor (List ℕ)). f.now) in
    let lines = group_answers s os fs cols old vs bs (omega (arith, all, few)) n d m e b in (
      search rules,
      group_more s os (chunks_rest c.loop-group.group-iterator) c.in-Some.group.now (chunks_rest c.next.new.self) c.loop-group.text.items c.push_lines.new.text.items _ _ went.1.0 c.in_ok-push_lines.ensures lines now.1,
      now.2,
      now.3,
    )
