-- A worked text, and the order and the limits of the refusals.
-- They are bytes and numbers that can be checked against docs/FORMAT.md.
use Rattle.std.specs.Prelude.{◌≡◌, [], ◌∷◌, ◌++◌, replicate, codes, Ok, Err}
use Rattle.rules.specs.Edges.{edge}
use Rattle.rules.specs.Pairs.{pair_of}
use Rattle.graph_model.specs.declared.refusal.Refusal.TheVariants.{TooManyOutputs, NoNode, TextTooLong}
use Rattle.graph_model.specs.Graphs.{State}
use Rattle.aiger_write.specs.Writing.{write_of, written}

-- a graph of two inputs and two AND nodes, whose edges are up to 9
abbrev pub example : State
example = record { inputs = 2; pairs = pair_of (edge 4) (edge 2) ∷ pair_of (edge 5) (edge 2) ∷ []; limit = 2; max_edge = 4294967295 }

-- its text with the output 3, whose 32 bytes do not fit into 31; an edge outside is told before that, and too many outputs before both
abbrev pub WorkedWrites : Type 0
WorkedWrites =
    (write_of example (edge 3 ∷ []) (replicate 32 0) ≡ Ok 32)
    × (written example (edge 3 ∷ []) (replicate 33 0) ≡ codes "aag 4 2 0 1 2\n2\n4\n3\n6 4 2\n8 5 2\n" ++ (0 ∷ []))
    × (write_of example (edge 3 ∷ []) (replicate 31 0) ≡ Err TextTooLong)
    × (written example (edge 3 ∷ []) (replicate 31 0) ≡ replicate 31 0)
    × (write_of example (edge 10 ∷ []) [] ≡ Err NoNode)
    × (write_of example (replicate 4096 (edge 10)) [] ≡ Err NoNode)
    × (write_of example (replicate 4097 (edge 10)) [] ≡ Err TooManyOutputs)
