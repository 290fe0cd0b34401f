use Rattle.aiger_check.proofs.Once.{taken_once, refused_once, apart}
use Rattle.aiger_check.proofs.check.answers_once.Goals as goal

pub returns : goal.returns
returns c = record { taken = taken_once; refused = refused_once; apart = apart }
