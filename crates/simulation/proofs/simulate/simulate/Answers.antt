use Rattle.std.proofs.Common.{rules, ◌≡◌, length, replicate, Ok, Err, ap, ◌∙◌, ap₂, subst, arith}
use Rattle.std.proofs.lemmas.List.{take_at, length-replicate}
use Rattle.rules.specs.declared.window.Window.{Window}
use Rattle.rules.specs.declared.window.Reply.{Reply}
use Rattle.rules.specs.Edges.{undefined_edge}
use Rattle.graph_model.specs.WellFormed.{Well, new_state}
use Rattle.graph.specs.States.{state}
use Rattle.simulation.specs.declared.error.SimulateError.TheVariants.{Refused}
use Rattle.simulation.specs.Columns.{shown}
use Rattle.simulation.specs.Answers.{answer_text}
use Rattle.simulation.specs.Simulations.{Simulates}
use Rattle.simulation.proofs.Simulating.{loaded, frames_failed, all_answered, file_refused, memory, reads_of}
use Rattle.simulation.proofs.simulate.simulate.Goals as goal

pub returns-in_err-map : goal.returns-in_err-map
returns-in_err-map g c = memory _ _ _ _ _ c.in_err-map.field-0.0 _ (search rules)

pub returns-in_err-outputs : goal.returns-in_err-outputs
returns-in_err-outputs g c = memory _ _ _ _ _ c.in_err-outputs.field-0.0 _ (search rules)

pub returns-in_err-answer_frames : goal.returns-in_err-answer_frames
returns-in_err-answer_frames g c = memory _ _ _ _ _ c.in_err-answer_frames.field-0.0 _ (search rules)

pub returns-in_err-read_circuit : goal.returns-in_err-read_circuit
returns-in_err-read_circuit g c =
    let k = g.S.NodeStore.model in
    let b = g.R.RuleSet.replies c.new-graph.result.rules in
    let bytes = c.args.circuit.now in
    let s = c.of-room.result in
    let f = c.in_err-read_circuit.field-0.0 in
    let t = state c.read_circuit.new.graph in
    let places : c.as_mut_slice.result.now ≡ replicate s.places undefined_edge = search rules in
    let outs : c.as_mut_slice-2.result.now ≡ replicate s.outputs undefined_edge = search rules in
    let e : c.from_residual-in_err-read_circuit.result ≡ Err (Refused f) = search rules in
    let read = reads_of b bytes _ (new_state s.inputs (k.limit c.args.store) (k.max_edge c.args.store)) _ _ _ _ (Err f) t c.read_circuit.new.map c.read_circuit.new.outputs c.new-graph.ensures.graph places outs c.in_err-read_circuit.ensures.answer in
    let P : (Window → Reply) → Type 0 = λ z. Simulates z bytes c.args.frames.now (k.limit c.args.store) (k.max_edge c.args.store) c.from_residual-in_err-read_circuit.result in
    subst P (ap g.R.RuleSet.replies c.new-graph.ensures.rules)
    (file_refused b bytes c.args.frames.now (k.limit c.args.store) (k.max_edge c.args.store) f _ e
    (loaded b (g.R.RuleSet.lawful c.new-graph.result.rules) bytes c.args.frames.now (k.limit c.args.store) (k.max_edge c.args.store) s c.of-room.ensures.answer t c.read_circuit.new.map c.read_circuit.new.outputs (Err f) read))

pub returns-in_err-frames : goal.returns-in_err-frames
returns-in_err-frames g c =
    let k = g.S.NodeStore.model in
    let b = g.R.RuleSet.replies c.new-graph.result.rules in
    let bytes = c.args.circuit.now in
    let s = c.of-room.result in
    let n = c.in_ok-read_circuit.field-0 in
    let x = c.in_err-frames.field-0.0 in
    let t = state c.read_circuit.new.graph in
    let places : c.as_mut_slice.result.now ≡ replicate s.places undefined_edge = search rules in
    let outs : c.as_mut_slice-2.result.now ≡ replicate s.outputs undefined_edge = search rules in
    let e : c.from_residual-in_err-frames.result ≡ Err x = search rules in
    let read = reads_of b bytes _ (new_state s.inputs (k.limit c.args.store) (k.max_edge c.args.store)) _ _ _ _ (Ok n) t c.read_circuit.new.map c.read_circuit.new.outputs c.new-graph.ensures.graph places outs c.in_ok-read_circuit.ensures.answer in
    let well = subst (Well b) c.new-graph.ensures.graph c.new-graph.result.well in
    let P : (Window → Reply) → Type 0 = λ z. Simulates z bytes c.args.frames.now (k.limit c.args.store) (k.max_edge c.args.store) c.from_residual-in_err-frames.result in
    subst P (ap g.R.RuleSet.replies c.new-graph.ensures.rules)
    (frames_failed b (g.R.RuleSet.lawful c.new-graph.result.rules) bytes c.args.frames.now (k.limit c.args.store) (k.max_edge c.args.store) s c.of-room.ensures.answer t c.read_circuit.new.map c.read_circuit.new.outputs n well read c.inputs.result x _ e c.inputs.ensures.answer c.in_err-frames.ensures.answer)

pub returns : goal.returns
returns g c =
    let k = g.S.NodeStore.model in
    let b = g.R.RuleSet.replies c.new-graph.result.rules in
    let bytes = c.args.circuit.now in
    let s = c.of-room.result in
    let n = c.in_ok-read_circuit.field-0 in
    let t = state c.read_circuit.new.graph in
    let o = c.read_circuit.new.outputs in
    let text = c.in_ok-answer_frames.field-0 in
    let places : c.as_mut_slice.result.now ≡ replicate s.places undefined_edge = search rules in
    let outs : c.as_mut_slice-2.result.now ≡ replicate s.outputs undefined_edge = search rules in
    let read = reads_of b bytes _ (new_state s.inputs (k.limit c.args.store) (k.max_edge c.args.store)) _ _ _ _ (Ok n) t c.read_circuit.new.map o c.new-graph.ensures.graph places outs c.in_ok-read_circuit.ensures.answer in
    let well = subst (Well b) c.new-graph.ensures.graph c.new-graph.result.well in
    let P : (Window → Reply) → Type 0 = λ z. Simulates z bytes c.args.frames.now (k.limit c.args.store) (k.max_edge c.args.store) (Ok text) in
    let fs = c.in_ok-frames.ensures.answer in
    let long : length o ≡ s.outputs = c.read_circuit.auto.outputs ∙ ap length outs ∙ length-replicate s.outputs undefined_edge in
    let same : c.as_slice.result.now ≡ o = c.as_slice.ensures.value ∙ take_at o _ c.in_ok-outputs.outputs.len (omega (arith, c.read_circuit.auto.outputs, ap length c.as_mut_slice-2.ensures.value)) in
    subst P (ap g.R.RuleSet.replies c.new-graph.ensures.rules)
    (all_answered b (g.R.RuleSet.lawful c.new-graph.result.rules) bytes c.args.frames.now (k.limit c.args.store) (k.max_edge c.args.store) s c.of-room.ensures.answer t c.read_circuit.new.map o n well read c.inputs.result c.in_ok-frames.frames.items fs.0 text c.inputs.ensures.answer long fs.1 fs.2
    (c.in_ok-answer_frames.ensures ∙ ap₂ (λ os ls. answer_text t os (shown ls)) same c.as_slice-2.ensures.value))
