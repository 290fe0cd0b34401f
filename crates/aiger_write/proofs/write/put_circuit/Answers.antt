use Rattle.std.proofs.Common.{rules, ◌≡◌, refl, ap₂, ◌+◌, ◌*◌, [], ◌∷◌, ◌++◌, codes, length, get_or, sym, ap, ◌∙◌, arith}
use Rattle.std.specs.Iterator.Adapters.{enumerate_source, enumerate_count}
use Rattle.stores.specs.Left.{left}
use Rattle.graph.specs.States.{state}
use Rattle.rules.specs.Edges.{edge}
use Rattle.aiger_write.specs.Texts.{line_text}
use Rattle.aiger_write.specs.Writing.{text_of}
use Rattle.aiger_write.proofs.Puts.{Due, HasTaken-append, Due-all, Due-at, Due-fits, Due-more, Due-is, Due-none, Due-then}
use Rattle.aiger_write.proofs.Items.{inputs_left, outputs_left, gates_left, inputs_more, inputs_all, outputs_more, outputs_all, gates_more, gates_all, text_parts}
use Rattle.aiger_write.proofs.Whole.{line_short, lines_short}
use Rattle.aiger_write.proofs.write.put_circuit.Goals as goal

pub put_line-requires : goal.put_line-requires
put_line-requires g c =
    omega (arith, line_short ((c.inputs-inputs.result + c.size-ands.result) ∷ c.inputs-inputs.result ∷ 0 ∷ length c.args.outputs.now ∷ c.size-ands.result ∷ []), c.put_bytes.ensures.at)

pub loop-j-init : goal.loop-j-init
loop-j-init g c =
    let n = c.inputs-inputs in
    let a = c.size-ands in
    (Due-all _ c.put_line.new.self, omega arith, omega (arith, lines_short (state c.args.graph.now) c.args.outputs.now n.result a.result n.ensures.answer a.ensures.answer n.ensures.limit a.ensures.limit c.requires, c.put_bytes.ensures.at, c.put_line.ensures.taken.at))

pub put_line-requires-in-loop-j : goal.put_line-requires-in-loop-j
put_line-requires-in-loop-j g c =
    let s = state c.args.graph.now in
    let os = c.args.outputs.now in
    let j = c.loop-j.j in
    Due-fits (inputs_left s os 0) (inputs_left s os j) (line_text (2 * (j + 1) ∷ [])) (inputs_left s os (j + 1)) c.put_line.new.self c.loop-j.sink c.loop-j.invariant.0 (inputs_more s os j (omega (arith, c.loop-j-test.true, c.inputs-inputs.ensures.answer))) c.loop-j.invariant.2

pub loop-j-preserved : goal.loop-j-preserved
loop-j-preserved g c =
    let s = state c.args.graph.now in
    let os = c.args.outputs.now in
    let j = c.loop-j.j in (
      Due-more (inputs_left s os 0) (inputs_left s os j) (line_text (2 * (j + 1) ∷ [])) (inputs_left s os (j + 1)) c.put_line.new.self c.loop-j.sink c.put_line-in-loop-j.new.self c.loop-j.invariant.0 (inputs_more s os j (omega (arith, c.loop-j-test.true, c.inputs-inputs.ensures.answer))) c.put_line-in-loop-j.ensures.taken,
      omega (arith, c.loop-j.invariant.1, c.put_line-in-loop-j.ensures.limit),
      c.loop-j.invariant.2,
    )

pub loop-edge-init : goal.loop-edge-init
loop-edge-init g c =
    let s = state c.args.graph.now in
    let os = c.args.outputs.now in
    let j = c.loop-j.j in
    (Due-all _ c.loop-j.sink, omega arith, omega (arith, Due-at (inputs_left s os 0) (inputs_left s os j) c.put_line.new.self c.loop-j.sink c.loop-j.invariant.0, ap length (inputs_all s os j (omega (arith, c.loop-j-test.false, c.inputs-inputs.ensures.answer))), c.loop-j.invariant.2))

pub put_line-requires-in-loop-edge : goal.put_line-requires-in-loop-edge
put_line-requires-in-loop-edge g c =
    let s = state c.args.graph.now in
    let os = c.args.outputs.now in
    let i = c.loop-edge.edge-index in
    Due-fits (outputs_left s os 0) (outputs_left s os i) (line_text ((get_or os i (edge 0)).0 ∷ [])) (outputs_left s os (i + 1)) c.loop-j.sink c.loop-edge.sink c.loop-edge.invariant.0 (outputs_more s os i c.loop-edge-test.true) c.loop-edge.invariant.2

pub loop-edge-preserved : goal.loop-edge-preserved
loop-edge-preserved g c =
    let s = state c.args.graph.now in
    let os = c.args.outputs.now in
    let i = c.loop-edge.edge-index in (
      Due-more (outputs_left s os 0) (outputs_left s os i) (line_text ((get_or os i (edge 0)).0 ∷ [])) (outputs_left s os (i + 1)) c.loop-j.sink c.loop-edge.sink c.put_line-in-loop-edge.new.self c.loop-edge.invariant.0 (outputs_more s os i c.loop-edge-test.true) c.put_line-in-loop-edge.ensures.taken,
      omega (arith, c.loop-edge.invariant.1, c.put_line-in-loop-edge.ensures.limit),
      c.loop-edge.invariant.2,
    )

pub loop-i-init : goal.loop-i-init
loop-i-init g c =
    let s = state c.args.graph.now in
    let os = c.args.outputs.now in
    let k = c.loop-edge.edge-index in
    let same = c.into_iter-i-iterator.ensures.into_iter_gives in
    let none : enumerate_count c.into_iter-i-iterator.result ≡ 0 = ap enumerate_count same ∙ c.enumerate-i-items.ensures.count in
    let all : left g.S.NodeStore.model (enumerate_source c.into_iter-i-iterator.result) ≡ s.pairs = ap (λ z. left g.S.NodeStore.model (enumerate_source z)) same ∙ ap (left g.S.NodeStore.model) c.enumerate-i-items.ensures.source ∙ c.pairs.ensures in
    let first : s.inputs + 1 ≡ s.inputs + 1 + enumerate_count c.into_iter-i-iterator.result = omega (arith, none) in (
      search rules,
      tt,
      Due-is _ _ _ _ _ (Due-all (gates_left (s.inputs + 1) s.pairs) c.loop-edge.sink) (ap₂ gates_left first (sym all)),
      omega arith,
      omega (arith, Due-at (outputs_left s os 0) (outputs_left s os k) c.loop-j.sink c.loop-edge.sink c.loop-edge.invariant.0, ap length (outputs_all s os k c.loop-edge-test.false), c.loop-edge.invariant.2),
      omega (arith, none, ap length all),
    )

pub put_line-requires-in-loop-i : goal.put_line-requires-in-loop-i
put_line-requires-in-loop-i g c =
    let s = state c.args.graph.now in
    let p = c.in-Some.pair in
    let step = c.in-Some.ensures.steps in
    let m = c.inputs-inputs.result + 1 + c.in-Some.i in
    let n = s.inputs + 1 + enumerate_count c.loop-i.i-iterator in
    let ps = left g.S.NodeStore.model (enumerate_source c.loop-i.i-iterator) in
    let qs = left g.S.NodeStore.model (enumerate_source c.next.new.self) in
    Due-fits (gates_left (s.inputs + 1) s.pairs) (gates_left n ps) (line_text (2 * m ∷ p.larger.0 ∷ p.smaller.0 ∷ [])) (gates_left (n + 1) qs) c.loop-edge.sink c.loop-i.sink c.loop-i.invariant.2
    (gates_more n m (n + 1) ps qs p (omega (arith, step.1, c.inputs-inputs.ensures.answer)) refl step.0) c.loop-i.invariant.4

pub loop-i-preserved : goal.loop-i-preserved
loop-i-preserved g c =
    let s = state c.args.graph.now in
    let now = c.loop-i.invariant in
    let went = c.in-Some.ensures.goes in
    let step = c.in-Some.ensures.steps in
    let p = c.in-Some.pair in
    let m = c.inputs-inputs.result + 1 + c.in-Some.i in
    let n = s.inputs + 1 + enumerate_count c.loop-i.i-iterator in
    let q = s.inputs + 1 + enumerate_count c.next.new.self in
    let ps = left g.S.NodeStore.model (enumerate_source c.loop-i.i-iterator) in
    let qs = left g.S.NodeStore.model (enumerate_source c.next.new.self) in (
      went.keeps,
      (went.on now.1).1,
      Due-more (gates_left (s.inputs + 1) s.pairs) (gates_left n ps) (line_text (2 * m ∷ p.larger.0 ∷ p.smaller.0 ∷ [])) (gates_left q qs) c.loop-edge.sink c.loop-i.sink c.put_line-in-loop-i.new.self now.2
          (gates_more n m q ps qs p (omega (arith, step.1, c.inputs-inputs.ensures.answer)) (omega (arith, step.2)) step.0) c.put_line-in-loop-i.ensures.taken,
      omega (arith, now.3, step.2, c.put_line-in-loop-i.ensures.limit),
      now.4,
      omega (arith, now.5, step.2, ap length step.0),
    )

pub returns : goal.returns
returns g c =
    let s = state c.args.graph.now in
    let os = c.args.outputs.now in
    let n = c.inputs-inputs.result in
    let a = c.size-ands.result in
    let j = c.loop-j.j in
    let k = c.loop-edge.edge-index in
    let i = s.inputs + 1 + enumerate_count c.loop-i.i-iterator in
    let ps = left g.S.NodeStore.model (enumerate_source c.loop-i.i-iterator) in
    let whole = text_of s os in
    let numbers = line_text ((n + a) ∷ n ∷ 0 ∷ length os ∷ a ∷ []) in
    let headed : Due whole (inputs_left s os 0) _ c.put_line.new.self = (codes "aag " ++ numbers, sym (text_parts s os n a c.inputs-inputs.ensures.answer c.size-ands.ensures.answer), HasTaken-append (codes "aag ") numbers _ c.put_bytes.new.self c.put_line.new.self c.put_bytes.ensures c.put_line.ensures.taken) in
    let entered = Due-then whole (inputs_left s os 0) (inputs_left s os j) _ c.put_line.new.self c.loop-j.sink headed c.loop-j.invariant.0 in
    let led = Due-then whole (outputs_left s os 0) (outputs_left s os k) _ c.loop-j.sink c.loop-edge.sink (Due-is whole (inputs_left s os j) (outputs_left s os 0) _ c.loop-j.sink entered (inputs_all s os j (omega (arith, c.loop-j-test.false, c.inputs-inputs.ensures.answer)))) c.loop-edge.invariant.0 in
    let gated = Due-then whole (gates_left (s.inputs + 1) s.pairs) (gates_left i ps) _ c.loop-edge.sink c.loop-i.sink (Due-is whole (outputs_left s os k) (gates_left (s.inputs + 1) s.pairs) _ c.loop-edge.sink led (outputs_all s os k c.loop-edge-test.false)) c.loop-i.invariant.2 in
    let taken = Due-none whole (gates_left i ps) _ c.loop-i.sink gated (gates_all i ps c.in-None.ensures.steps.0.0) in
    record {
      answer = omega (arith, taken.at);
      limit = omega (arith, c.put_bytes.ensures.at, c.put_line.ensures.limit, c.loop-j.invariant.1, c.loop-edge.invariant.1, c.loop-i.invariant.3, c.loop-i.invariant.5, c.loop-j.auto.j-end, c.loop-edge.auto.edge-index-end, c.inputs-inputs.ensures.answer, c.size-ands.ensures.answer);
      text = (let b = taken.buffer in let t = taken.text in search rules);
    }
