use Rattle.aiger_circuit.proofs.Splits as splits
use Rattle.aiger_circuit.proofs.taken_is_circuit.Goals as goal

pub returns : goal.returns
returns c = splits.some
