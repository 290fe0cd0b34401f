use Rattle.std.proofs.Common.{rules}
use Rattle.graph_model.specs.Graphs.{at}
use Rattle.questions.proofs.value.node_value.Goals as goal

pub returns : goal.returns
unfolding at
returns g c = search rules
