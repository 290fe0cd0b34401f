-- A graph's state, by what its store stands for.
-- Nothing of a store but its list, its limit and its largest edge is in it.
use Rattle.std.specs.Prelude.{ℕ}
use Rattle.stores.specs.Stored.{StoreModel}
use Rattle.graph_model.specs.Graphs.{State}

abbrev pub state_of : {S : Type 0} → StoreModel S → ℕ → S → State
state_of m inputs store = record { inputs = inputs; pairs = m.pairs store; limit = m.limit store; max_edge = m.max_edge store }
