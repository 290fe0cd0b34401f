use Rattle.graph.specs.States.{state}
use Rattle.bench.proofs.Finding.{found}
use Rattle.bench.proofs.comparisons.compare_once.Goals as goal

pub returns : goal.returns
returns g c = found c.args.question (state c.in-Ok.graph) (state c.grow.new.graph) c.in-Ok.x c.in-Ok.y c.in-Ok-answer.difference c.in-Ok.ensures.answer c.grow.ensures.kept c.in-Ok-answer.ensures.cases
