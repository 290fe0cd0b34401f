use Rattle.std.proofs.Common.{◌≡◌, ℕ, ◌+◌, ◌/◌, ◌<◌, ◌≤◌, [], length, get_or, drop, set, Ok, sym, ap, ◌∙◌, subst, arith, rules}
use Rattle.std.proofs.lemmas.List.{drop-set-lt}
use Rattle.std.proofs.lemmas.Result.{err_from_is_err_and}
use Rattle.std.proofs.iter.Serving.{serving}
use Rattle.graph_model.specs.Requests.{and_of}
use Rattle.graph.specs.States.{state}
use Rattle.graph.proofs.Chains.{as_number, flag_limit}
use Rattle.aiger_check.specs.declared.faults.LineFault.TheVariants.{Full}
use Rattle.aiger_check.specs.Reading.{all, Stepped}
use Rattle.aiger_check.specs.Text.{lines}
use Rattle.aiger_lines.specs.Shapes.{AndRead}
use Rattle.aiger_check.proofs.Lines.{items_same}
use Rattle.aiger_read.specs.Requests.{run, stopped, through}
use Rattle.aiger_read.proofs.Fill.{more_lines}
use Rattle.aiger_read.proofs.Turn.{one_more, no_more, read_well, good_gate, line_read, kept, turned, at_end}
use Rattle.aiger_read.proofs.gates.request_gates.Given as given
use Rattle.aiger_read.proofs.gates.request_gates.Goals as goal
use Rattle.aiger_read.proofs.gates.request_gates.Goals.{After-unwrap-gate}

-- the gate that the line was read as
told : (g : given.Over) (c : After-unwrap-gate g) → AndRead (get_or (all c.args.reader.now) (1 + (c.args.header.inputs + c.args.header.outputs + c.loop-j.j)) []) (Ok c.unwrap-gate.result)
told g c =
    let inv = c.loop-j.invariant in
    let same = ap (λ b. lines b.now) inv.4 in
    line_read c.loop-j.reader c.next_bytes.new.self c.next_bytes.result c.unwrap-bytes.result c.next_bytes.ensures c.unwrap-bytes.ensures (all c.args.reader.now) same (1 + (c.args.header.inputs + c.args.header.outputs + c.loop-j.j)) (omega (arith, inv.5)) (Ok c.unwrap-gate.result)
    (subst (AndRead c.unwrap-bytes.result.now) c.unwrap-gate.ensures c.and_line.ensures)

few : (g : given.Over) (c : After-unwrap-gate g) → (c.unwrap-gate.result.lhs / 2 ≤ c.args.header.max) × (c.unwrap-gate.result.left / 2 ≤ c.args.header.max) × (c.unwrap-gate.result.right / 2 ≤ c.args.header.max)
few g c =
    let inv = c.loop-j.invariant in
    good_gate c.args.header (all c.args.reader.now) inv.0 inv.2 (c.args.header.inputs + c.args.header.outputs + c.loop-j.j) (omega arith) (omega (arith, inv.1)) c.unwrap-gate.result (told g c)

pub unwrap-bytes-requires : goal.unwrap-bytes-requires
unwrap-bytes-requires g c =
    let inv = c.loop-j.invariant in
    let same = ap (λ b. lines b.now) inv.4 in
    let more = more_lines c.args.header (all c.args.reader.now) inv.0 inv.2 (c.args.header.inputs + c.args.header.outputs + c.loop-j.j) (omega (arith, inv.1)) in
    let there : c.loop-j.reader.number < length (all c.loop-j.reader) = omega (arith, more, ap length same, inv.5) in
    search rules

pub unwrap-gate-requires : goal.unwrap-gate-requires
unwrap-gate-requires g c =
    let inv = c.loop-j.invariant in
    let same = ap (λ b. lines b.now) inv.4 in
    read_well c.args.header (all c.args.reader.now) inv.0 inv.2 (c.args.header.inputs + c.args.header.outputs + c.loop-j.j) (omega arith) (omega (arith, inv.1)) c.and_line.result
    (line_read c.loop-j.reader c.next_bytes.new.self c.next_bytes.result c.unwrap-bytes.result c.next_bytes.ensures c.unwrap-bytes.ensures (all c.args.reader.now) same _ (omega (arith, inv.5)) c.and_line.result c.and_line.ensures)

pub edge_of-x-requires : goal.edge_of-x-requires
edge_of-x-requires g c = let f = few g c in omega (arith, f.1, c.requires.room, c.loop-j.auto.map)

pub edge_of-y-requires : goal.edge_of-y-requires
edge_of-y-requires g c = let f = few g (goal.at.edge_of-y-requires g c).After-unwrap-gate in omega (arith, f.2, c.requires.room, c.loop-j.auto.map)

pub bounds-map-gate : goal.bounds-map-gate
bounds-map-gate g c = let f = few g (goal.at.bounds-map-gate g c).After-unwrap-gate in omega (arith, f.0, c.requires.room, c.loop-j.auto.map)

pub loop-j-preserved : goal.loop-j-preserved
loop-j-preserved g c =
    let inv = c.loop-j.invariant in
    let line = subst (λ o. Stepped c.loop-j.reader o c.next_bytes.new.self) c.unwrap-bytes.ensures c.next_bytes.ensures in
    let k : ℕ = c.args.header.inputs + c.args.header.outputs + c.loop-j.j in
    let s = state c.loop-j.graph in
    let b = g.R.RuleSet.replies c.args.graph.now.rules in
    let answer = sym (kept _ c.and.result c.map_err.result (c.in_ok-edge.edge, c.in_ok-edge.is_new) c.in_ok-edge.was c.map_err.ensures.cases) ∙ c.and.ensures.answer ∙ (λ i. (and_of (g.R.RuleSet.replies (c.loop-j.invariant.7 i)) (state c.loop-j.graph) (c.edge_of-x.ensures i) (c.edge_of-y.ensures i)).answer) in
    let after : state c.and.new.self ≡ (and_of b s (through c.loop-j.map c.unwrap-gate.result.left) (through c.loop-j.map c.unwrap-gate.result.right)).after =
    c.and.ensures.graph ∙ (λ i. (and_of (g.R.RuleSet.replies (c.loop-j.invariant.7 i)) (state c.loop-j.graph) (c.edge_of-x.ensures i) (c.edge_of-y.ensures i)).after) in
    let more = one_more c.args.header (all c.args.reader.now) inv.0 inv.2 k (omega arith) (omega (arith, inv.1)) b s c.loop-j.map c.loop-j.added c.unwrap-gate.result (told g (goal.at.loop-j-preserved g c).After-unwrap-gate) c.in_ok-edge.edge c.in_ok-edge.is_new answer in
    let on : k + 1 ≡ c.args.header.inputs + c.args.header.outputs + (c.loop-j.j + 1) = omega arith in
    let count = c.from-added.ensures ∙ as_number c.in_ok-edge.is_new in
    let back = sym after in
    let total_back = ap (λ t. c.loop-j.added + t) (sym count) in (
      inv.0,
      inv.1,
      inv.2,
      inv.3 ∙ more ∙ (λ i. run (g.R.RuleSet.replies c.args.graph.now.rules) (on i) (drop (on i) c.loop-j.invariant.0) (back i) (set c.loop-j.map (c.unwrap-gate.result.lhs / 2) c.in_ok-edge.edge) (total_back i)),
      line.2 ∙ inv.4,
      omega (arith, line.3, inv.5),
      drop-set-lt (c.args.header.max + 1) c.loop-j.map (c.unwrap-gate.result.lhs / 2) c.in_ok-edge.edge (omega (arith, (few g (goal.at.loop-j-preserved g c).After-unwrap-gate).0)) ∙ inv.6,
      c.and.ensures.rules ∙ inv.7,
      omega (arith, c.from-added.ensures, flag_limit c.in_ok-edge.is_new, inv.8),
    )

pub returns-in_err-edge-clause-answer : goal.returns-in_err-edge-clause-answer
returns-in_err-edge-clause-answer g c = λ is long begins.
    let inv = c.loop-j.invariant in
    let k : ℕ = c.args.header.inputs + c.args.header.outputs + c.loop-j.j in
    let s = state c.loop-j.graph in
    let b = g.R.RuleSet.replies c.args.graph.now.rules in
    let p = err_from_is_err_and c.from_residual.result c.from_residual.ensures.1 in
    let full = turned _ (record { line = k + 2; fault = Full }) (λ e f h. grind serving) c.and.result c.map_err.result c.in_err-edge.field-0.0 c.in_err-edge.was c.map_err.ensures.cases in
    let answer = sym full.1 ∙ c.and.ensures.answer ∙ (λ i. (and_of (g.R.RuleSet.replies (c.loop-j.invariant.7 i)) (state c.loop-j.graph) (c.edge_of-x.ensures i) (c.edge_of-y.ensures i)).answer) in
    let after : state c.and.new.self ≡ (and_of b s (through c.loop-j.map c.unwrap-gate.result.left) (through c.loop-j.map c.unwrap-gate.result.right)).after =
    c.and.ensures.graph ∙ (λ i. (and_of (g.R.RuleSet.replies (c.loop-j.invariant.7 i)) (state c.loop-j.graph) (c.edge_of-x.ensures i) (c.edge_of-y.ensures i)).after) in
    let stop = no_more c.args.header (all c.args.reader.now) inv.0 inv.2 k (omega arith) (omega (arith, inv.1)) b s c.loop-j.map c.loop-j.added c.unwrap-gate.result (told g (goal.at.returns-in_err-edge-clause-answer g c).After-unwrap-gate) full.0 answer in
    let e = items_same c.args.header (all c.args.reader.now) is inv.0 begins inv.2 (long ∙ sym inv.1) in
    rw p.1 (k, ap (λ xs. run b (c.args.header.inputs + c.args.header.outputs) (drop (c.args.header.inputs + c.args.header.outputs) xs) (state c.args.graph.now) c.args.map.now 0) e ∙ inv.3 ∙ stop ∙ ap (stopped k) (sym after), p.2 ∙ full.2)

pub returns-clause-answer : goal.returns-clause-answer
returns-clause-answer g c = λ is long begins.
    let inv = c.loop-j.invariant in
    let b = g.R.RuleSet.replies c.args.graph.now.rules in
    let e = items_same c.args.header (all c.args.reader.now) is inv.0 begins inv.2 (long ∙ sym inv.1) in
    ap (λ xs. run b (c.args.header.inputs + c.args.header.outputs) (drop (c.args.header.inputs + c.args.header.outputs) xs) (state c.args.graph.now) c.args.map.now 0) e ∙ inv.3
    ∙ at_end b inv.0 (c.args.header.inputs + c.args.header.outputs + c.loop-j.j) (state c.loop-j.graph) c.loop-j.map c.loop-j.added (omega (arith, inv.1))
