use Rattle.std.proofs.Common.{◌≡◌, ℕ, Result, sym, ap, ◌∙◌, subst, arith}
use Rattle.std.proofs.lemmas.List.{take_at}
use Rattle.rules.specs.RuleLists.{by_rules}
use Rattle.rulesets.specs.Levels.{level_rules}
use Rattle.graph.specs.States.{state, replies}
use Rattle.aiger_check.specs.declared.faults.CircuitFault.{CircuitFault}
use Rattle.aiger_read.specs.Reads.{Reads}
use Rattle.aiger_write.specs.Writing.{write_of}
use Rattle.bench.proofs.circuits.press_once.Goals as goal

pub returns : goal.returns
returns g c =
    let read = c.read_circuit-read in
    let s = state read.new.graph in
    let text = c.as_mut_slice-3.result.now in
    let P : Result ℕ CircuitFault → Type 0 = λ r. Reads (replies c.new-graph.result) c.args.bytes.now (state c.new-graph.result) c.as_mut_slice.result.now c.as_mut_slice-2.result.now r s read.new.map read.new.outputs in
    let told : c.as_slice.result.now ≡ read.new.outputs = c.as_slice.ensures.value ∙ take_at _ _ _ (omega (arith, read.auto.outputs, c.as_mut_slice-2.ensures.len)) in
    record {
      rules = replies c.new-graph.result;
      level = ap (λ l. by_rules (level_rules l)) c.new-graph.ensures.rules;
      start = state c.new-graph.result;
      new = c.new-graph.ensures.graph;
      old_map = c.as_mut_slice.result.now;
      old_outputs = c.as_mut_slice-2.result.now;
      graph = s;
      map = read.new.map;
      outputs = read.new.outputs;
      reads = subst P c.in-Ok-Ok.is-0 read.ensures.answer;
      text = text;
      writes = ap (λ os. write_of s os text) (sym told) ∙ sym c.write_circuit-written.ensures.answer ∙ c.in-Ok-Ok.is-1;
    }
