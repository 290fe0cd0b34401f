use Rattle.std.proofs.Common.{arith}
use Rattle.std.proofs.lemmas.Bool.Decides.{nat_tests}
use Rattle.graph_model.specs.Requests.{trivial}
use Rattle.graph.proofs.graph.settling.trivial_and.Goals as goal

pub returns-then-eq : goal.returns-then-eq
unfolding trivial
returns-then-eq c = grind (arith, nat_tests)

pub returns-then-eq-3 : goal.returns-then-eq-3
unfolding trivial
returns-then-eq-3 c = grind (arith, nat_tests)

pub returns-then-eq-4 : goal.returns-then-eq-4
unfolding trivial
returns-then-eq-4 c = grind (arith, nat_tests)

pub returns-then-eq-6 : goal.returns-then-eq-6
unfolding trivial
returns-then-eq-6 c = grind (arith, nat_tests)

pub returns : goal.returns
unfolding trivial
returns c = grind (arith, nat_tests)
