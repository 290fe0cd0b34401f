use Rattle.std.proofs.Common.{arith}
use Rattle.std.proofs.lemmas.Grind.{common_steps}
use Rattle.chained_store.proofs.Chain.{headed_none}
use Rattle.chained_store.proofs.chained.ChainedStore.new.Goals as goal

pub invariant_of-result-clause-headed : goal.invariant_of-result-clause-headed
invariant_of-result-clause-headed c = headed_none _ c.args.records.now c.fill.new.self (λ j l. grind (arith, common_steps))
