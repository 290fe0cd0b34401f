-- The number of each refusal of a graph's calls.
-- The numbers are those of docs/REFUSALS.md.
use Rattle.std.specs.Prelude.{ℕ}
use Rattle.graph_model.specs.declared.refusal.Refusal.{Refusal}
use Rattle.graph_model.specs.declared.refusal.Refusal.TheVariants.{TooManyOutputs, Full, NoNode, TooManyInputs, Values, TextTooLong}

abbrev pub refusal_number : Refusal → ℕ
refusal_number TooManyOutputs = 4
refusal_number Full = 11
refusal_number NoNode = 12
refusal_number TooManyInputs = 13
refusal_number Values = 14
refusal_number TextTooLong = 15
