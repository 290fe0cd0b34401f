-- A worked history: requests to a graph of two inputs with room for one pair, under no rules. The file taken last had the first input as its output.
-- They are numbers that can be checked on paper, and each is proved by computing it.
use Rattle.std.specs.Prelude.{◌≡◌, ℕ, Bool, true, false, List, [], ◌∷◌, ◌++◌, drop, None, Ok, Err, codes}
use Rattle.std.specs.Borrow.{Bor}
use Rattle.values.specs.Bit.{bit_algebra}
use Rattle.values.specs.declared.block.Block.{Block}
use Rattle.rules.specs.declared.edge.Edge.{Edge}
use Rattle.rules.specs.declared.pair.Pair.{Pair}
use Rattle.rules.specs.Edges.{edge}
use Rattle.rules.specs.Pairs.{pair_of}
use Rattle.rules.specs.RuleLists.{by_rules}
use Rattle.graph_model.specs.declared.operation.Operation.TheVariants.{Implies}
use Rattle.graph_model.specs.declared.refusal.Refusal.TheVariants.{Full}
use Rattle.questions.specs.Comparison.{blocks_after}
use Rattle.questions.specs.Tabulation.{tables_after}
use Rattle.aiger_check.specs.declared.faults.CircuitFault.TheVariants.{NoHeader}
use Rattle.history_model.specs.declared.request.Inputs.TheVariants.{Bits}
use Rattle.history_model.specs.declared.request.Outputs.TheVariants.{Edges, LastFile}
use Rattle.history_model.specs.declared.request.Request.{Request}
use Rattle.history_model.specs.declared.request.Request.TheVariants.{And, Apply, Read, Write, Evaluate, Pairs}
use Rattle.history_model.specs.Histories.{Told, anded, applied, read, written, valued, bits, paired, undefined, World, new_world, Table, Happens}

abbrev pub holding : List Pair → World
holding ps = record { graph = record { inputs = 2; pairs = ps; limit = 1; max_edge = 9000 }; outputs = edge 2 ∷ [] }

abbrev pub new : World
new = new_world 2 1 9000

abbrev pub before : World
before = holding []

-- the two inputs are ANDed
abbrev pub after : World
after = holding (pair_of (edge 2) (edge 4) ∷ [])

abbrev pub Answered : World → Request Bool → Told Bool → World → Type 0
Answered = Happens bit_algebra (by_rules [])

-- a new graph has no outputs to write; the first request adds a node; IMPLIES finds no room; a file without a header changes
-- nothing; a text has the outputs of the file taken last or those that are given, and zeros after it; the inputs are true and
-- false; of six places, a comparison and a table fill one for each of the four nodes and keep the others
abbrev pub Worked : Type 0
Worked =
    Answered new (Write LastFile 20) (written (Ok 18) (codes "aag 2 2 0 0 0\n2\n4\n" ++ (0 ∷ 0 ∷ []))) new
    × Answered before (And (edge 2) (edge 4)) (anded (Ok (edge 6, true))) after
    × Answered after (Apply Implies (edge 2) (edge 4)) (applied (Err Full)) after
    × ((bytes : Bor (List ℕ)) → bytes.now ≡ [] → Answered after (Read bytes 1 2) (read (Err NoHeader) (undefined 1) (undefined 2)) after)
    × Answered after (Write LastFile 28) (written (Ok 26) (codes "aag 3 2 0 1 1\n2\n4\n2\n6 4 2\n" ++ (0 ∷ 0 ∷ []))) after
    × ((given : Bor (List Edge)) → given.now ≡ edge 7 ∷ [] → Answered after (Write (Edges given) 26) (written (Ok 26) (codes "aag 3 2 0 1 1\n2\n4\n7\n6 4 2\n")) after)
    × ((inputs : Bor (List Bool)) → inputs.now ≡ true ∷ false ∷ [] → Answered after (Evaluate (Bits inputs) 5) (valued (Ok tt) (bits (false ∷ true ∷ false ∷ false ∷ false ∷ []))) after)
    × Answered after Pairs (paired (pair_of (edge 2) (edge 4) ∷ [])) after
    × ((a b c d e f : Block) → drop 4 (blocks_after (Ok None) after.graph (a ∷ b ∷ c ∷ d ∷ e ∷ f ∷ [])) ≡ e ∷ f ∷ [])
    × ((a b c d e f : Table) → drop 4 (tables_after (Ok tt) after.graph (a ∷ b ∷ c ∷ d ∷ e ∷ f ∷ [])) ≡ e ∷ f ∷ [])
