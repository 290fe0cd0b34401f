use Rattle.std.proofs.Common.{rules, arith, ap, ◌∙◌}
use Rattle.std.proofs.lemmas.List.{take_at}
use Rattle.graph.specs.States.{state}
use Rattle.sample_readings.specs.Answers.{answered}
use Rattle.sample_readings.proofs.Readings.{reads-of_equal}
use Rattle.sample_readings.proofs.sample.read_sample.Goals as goal

pub returns : goal.returns
returns g c =
    record {
      room = c.of-room.result;
      named = c.of-room.ensures.answer;
      answer = c.read_circuit-read.result;
      graph = state c.read_circuit-read.new.graph;
      map = c.read_circuit-read.new.map;
      outputs = c.read_circuit-read.new.outputs;
      reads = reads-of_equal _ _ _ _ _ _ _ _ _ _ _ _ _ (search rules) (search rules) (search rules) (search rules) c.read_circuit-read.ensures.answer;
      told = c.in_ok-answer.ensures ∙ ap (answered c.read_circuit-read.result) (c.as_slice.ensures.value ∙ take_at _ _ _ (omega (arith, c.read_circuit-read.auto.outputs, c.as_mut_slice-2.ensures.len)));
      nodes = search rules;
    }
