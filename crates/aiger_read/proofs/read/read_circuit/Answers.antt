use Rattle.std.proofs.Common.{◌≡◌, ◌+◌, ◌<◌, ◌≤◌, ◌++◌, length, get_or, drop, replicate, sym, ap, ◌∙◌, subst, inr, arith}
use Rattle.std.proofs.lemmas.List.{length-take-le, get_or-take}
use Rattle.rules.specs.Edges.{edge, undefined_edge}
use Rattle.graph.specs.States.{state}
use Rattle.aiger_check.specs.declared.faults.CircuitFault.TheVariants.{Line}
use Rattle.aiger_check.specs.Reading.{all}
use Rattle.aiger_check.specs.Text.{lines}
use Rattle.aiger_check.specs.Circuits.{Begins}
use Rattle.aiger_check.specs.Files.{Taken, literal}
use Rattle.aiger_check.proofs.Keeping.{output_at}
use Rattle.aiger_check.proofs.Ending.{kept_m, kept_o, inside}
use Rattle.aiger_read.specs.Requests.{run, through}
use Rattle.aiger_read.proofs.Fill.{enough, picked}
use Rattle.aiger_read.proofs.Unknown.{unknown}
use Rattle.aiger_read.proofs.read.read_circuit.Given as given
use Rattle.aiger_read.proofs.read.read_circuit.Goals as goal
use Rattle.aiger_read.proofs.read.read_circuit.Goals.{After-skip}

-- of a taken file, once the reader stands before the gates
module _ (g : given.Over) (c : After-skip g) where
  begins : Begins c.in_ok-header.header (all c.skip.new.reader) c.in_ok-header.ensures.0
  begins =
      let same : all c.skip.new.reader ≡ lines c.args.bytes.now = ap (λ b. lines b.now) c.skip.ensures.0 ∙ ap lines c.new-reader.ensures.0 in
      subst (λ ls. Begins c.in_ok-header.header ls c.in_ok-header.ensures.0) (sym same) c.in_ok-header.ensures.1.whole.begins

  taken : Taken c.args.bytes.now (state c.args.graph.now).inputs (length c.args.map.now) (length c.args.outputs.now) c.in_ok-header.header c.in_ok-header.ensures.0
  taken = subst (λ n. Taken c.args.bytes.now n (length c.args.map.now) (length c.args.outputs.now) c.in_ok-header.header c.in_ok-header.ensures.0) c.inputs.ensures.answer c.in_ok-header.ensures.1

  kept : (drop (c.in_ok-header.header.max + 1) c.check.new.map ≡ drop (c.in_ok-header.header.max + 1) c.args.map.now) × (drop c.in_ok-header.header.outputs c.check.new.outputs ≡ drop c.in_ok-header.header.outputs c.args.outputs.now)
  kept =
      let t = c.in_ok-header.ensures in
      let o = t.1.opens in (
        kept_m c.in_ok-header.header (lines c.args.bytes.now) c.args.map.now c.args.outputs.now o.within.small o.room.map o.room.outputs t.0 t.1.whole.begins c.check.new.map c.check.new.outputs t.2 t.3,
        kept_o c.in_ok-header.header (lines c.args.bytes.now) c.args.map.now c.args.outputs.now o.within.small o.room.map o.room.outputs t.0 t.1.whole.begins c.check.new.map c.check.new.outputs t.2 t.3,
      )

pub skip-requires : goal.skip-requires
skip-requires g c =
    let t = c.in_ok-header.ensures in
    record {
      start = c.new-reader.ensures.1;
      there = omega (arith, enough c.args.bytes.now c.inputs.result (length c.args.map.now) (length c.args.outputs.now) c.in_ok-header.header t.0 t.1, ap (λ b. length (lines b)) c.new-reader.ensures.0);
    }

pub request_gates-requires : goal.request_gates-requires
request_gates-requires g c =
    let t = c.in_ok-header.ensures in
    let o = t.1.opens in
    record {
      small = o.within.small;
      room = omega (arith, o.room.map, c.check.auto.map);
      place = c.skip.ensures.1;
      good = (t.0, t.1.whole.count, begins g (goal.at.request_gates-requires g c).After-skip);
    }

pub fill_outputs-requires : goal.fill_outputs-requires
fill_outputs-requires g c = λ j l.
    let h = c.in_ok-header.header in
    let t = c.in_ok-header.ensures in
    let o = t.1.opens in
    let below : j < h.outputs = omega (arith, l, length-take-le h.outputs c.check.new.outputs (omega (arith, o.room.outputs, c.check.auto.outputs))) in
    let same = ap (λ e. e.0) (get_or-take h.outputs c.check.new.outputs j (edge 0) below) in
    omega (arith, same, inside h (lines c.args.bytes.now) c.args.map.now c.args.outputs.now o.within.small o.room.map o.room.outputs t.0 t.1.whole.begins c.check.new.map c.check.new.outputs t.2 t.3 t.1.whole.count j below, o.room.map, c.check.auto.map, c.request_gates.auto.map)

pub returns-in-Ok : goal.returns-in-Ok
returns-in-Ok g c =
    let before = (goal.at.returns-in-Ok g c).After-skip in
    let h = c.in_ok-header.header in
    let t = c.in_ok-header.ensures in
    let o = t.1.opens in
    let b = g.R.RuleSet.replies c.args.graph.now.rules in
    let s = state c.args.graph.now in
    let long : h.outputs ≤ length c.check.new.outputs = omega (arith, o.room.outputs, c.check.auto.outputs) in
    let runs = ap (λ z. run b (h.inputs + h.outputs) (drop (h.inputs + h.outputs) c.in_ok-header.ensures.0) s z 0) (sym t.2) ∙ c.in-Ok.ensures.answer t.0 t.1.whole.count (begins g before) in
    record {
      answer = (
        h,
        t.0,
        taken g before,
        record {
          runs = runs;
          unknown = unknown b h t.0 c.args.map.now s (state c.request_gates.new.graph) c.in-Ok.added c.request_gates.new.map o.room.map runs;
          beyond = c.in-Ok.ensures.kept ∙ (kept g before).0;
          outputs =
              ap (λ es. es ++ drop h.outputs c.check.new.outputs) c.fill_outputs.ensures
              ∙ (λ i. picked (λ x. through c.request_gates.new.map (literal x)) (λ e. through c.request_gates.new.map e.0) c.check.new.outputs t.0 h.inputs h.outputs long (omega (arith, t.1.whole.count))
              (λ j l. ap (λ e. through c.request_gates.new.map e.0) (ap (λ z. get_or z j (edge 0)) t.3 ∙ output_at h (lines c.args.bytes.now) t.0 t.1.whole.begins c.args.outputs.now j (omega (arith, t.1.whole.count)) l o.room.outputs)) i
              ++ (kept g before).1 i);
        },
      );
      rules = c.in-Ok.ensures.rules;
    }

pub returns-in-Err : goal.returns-in-Err
returns-in-Err g c =
    let before = (goal.at.returns-in-Err g c).After-skip in
    let h = c.in_ok-header.header in
    let t = c.in_ok-header.ensures in
    let room = t.1.opens.room in
    let told = c.in-Err.ensures.answer t.0 t.1.whole.count (begins g before) in
    record {
      answer = inr (
        h,
        t.0,
        taken g before,
        record {
          at = told.0;
          runs = ap (λ z. run (g.R.RuleSet.replies c.args.graph.now.rules) (h.inputs + h.outputs) (drop (h.inputs + h.outputs) c.in_ok-header.ensures.0) (state c.args.graph.now) z 0) (sym t.2) ∙ told.1;
          fault = ap Line told.2;
          map = c.clear.ensures.map_within (omega (arith, room.map, c.request_gates.auto.map, c.check.auto.map)) ∙ ap (λ d. replicate (h.max + 1) undefined_edge ++ d) (c.in-Err.ensures.kept ∙ (kept g before).0);
          outputs = c.clear.ensures.outputs_within (omega (arith, room.outputs, c.check.auto.outputs)) ∙ ap (λ d. replicate h.outputs undefined_edge ++ d) (kept g before).1;
        },
      );
      rules = c.in-Err.ensures.rules;
    }
