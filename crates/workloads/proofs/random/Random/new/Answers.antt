use Rattle.std.proofs.Common.{refl}
use Rattle.workloads.specs.Randoms.{seed}
use Rattle.workloads.proofs.random.Random.new.Goals as goal

pub returns : goal.returns
unfolding seed
returns c = refl
