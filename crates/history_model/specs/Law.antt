-- The law over histories: what holds of every list of requests, in every Boolean algebra.
-- It is said of answers alone, at the moment of the answer and at every later one, for every algebra and assignment.
use Rattle.std.specs.Prelude.{◌≡◌, ℕ, ◌+◌, ◌≤◌, Bool, false, ◌⊎◌, List, [], ◌∷◌, map, length, Ok, Err, if◌then◌else◌}
use Rattle.std.specs.Borrow.{Bor}
use Rattle.std.specs.List.{AllByRecursion}
use Rattle.values.specs.Algebra.{BooleanAlgebra}
use Rattle.values.specs.Bit.{bit_algebra}
use Rattle.values.specs.Blocks.{block_algebra}
use Rattle.values.specs.Rows.{table_algebra}
use Rattle.values.specs.declared.block.Block.{Block}
use Rattle.values.specs.declared.cofactors.Cofactors.{Cofactors}
use Rattle.rules.specs.declared.edge.Edge.{Edge}
use Rattle.rules.specs.declared.window.Window.{Window}
use Rattle.rules.specs.declared.window.Reply.{Reply}
use Rattle.rules.specs.Meaning.{means}
use Rattle.graph_model.specs.declared.operation.Operation.{Operation}
use Rattle.graph_model.specs.Graphs.{State, Inside, at, meaning}
use Rattle.graph_model.specs.Operations.{function, Symmetric}
use Rattle.graph_model.specs.WellFormed.{Well}
use Rattle.questions.specs.Evaluation.{assigned}
use Rattle.aiger_read.specs.Meaning.{FileMeans, FileGives}
use Rattle.history_model.specs.declared.request.Inputs.{Inputs}
use Rattle.history_model.specs.declared.request.Inputs.TheVariants as inputs
use Rattle.history_model.specs.declared.request.Request.{Request}
use Rattle.history_model.specs.declared.request.Request.TheVariants.{And, Apply, Read, Write, Evaluate, Compare, Tabulate, Pairs}
use Rattle.history_model.specs.Histories.{Listed, bits, blocks, tables, others, Told, anded, applied, read, written, valued, compared, tabulated, paired, undefined, World, Moment, History}

-- P holds of each moment and the moments after it
abbrev pub EachThen : {W : Type 0} → (Moment W → List (Moment W) → Type 0) → List (Moment W) → Type 0
EachThen P [] = Unit {0}
EachThen P (m ∷ later) = P m later × EachThen P later

-- under the assignment ρ, value gives every edge that was answered to a request made of s the function requested:
-- the operation on what its operands meant before it, or what a file alone says
abbrev pub Gives : {V W : Type 0} → BooleanAlgebra V → State → Request W → Told W → (ℕ → V) → (Edge → V) → Type 0
Gives k s (And x y) a ρ value = (e : Edge) (flag : Bool) → a ≡ anded (Ok (e, flag)) → value e ≡ k.and (meaning k ρ s x) (meaning k ρ s y)
Gives k s (Apply op x y) a ρ value = (e : Edge) (n : ℕ) → a ≡ applied (Ok (e, n)) → value e ≡ function k op (meaning k ρ s x) (meaning k ρ s y)
Gives k s (Read bytes places outs) a ρ value = (n : ℕ) (map outputs : List Edge) → a ≡ read (Ok n) map outputs → FileGives k bytes.now s.inputs places outs map outputs ρ value
Gives k s (Write os room) a ρ value = Unit {0}
Gives k s (Evaluate ins places) a ρ value = Unit {0}
Gives k s (Compare x y places) a ρ value = Unit {0}
Gives k s (Tabulate e places) a ρ value = Unit {0}
Gives k s Pairs a ρ value = Unit {0}

-- the edges answered to a request made of s mean in the graph u, under every assignment, the functions requested
abbrev pub Right : {V W : Type 0} → BooleanAlgebra V → State → Request W → Told W → State → Type 0
Right {V} k s r a u = (ρ : ℕ → V) → Gives k s r a ρ (meaning k ρ u)

-- every edge that a file taken in s put into its map and outputs is in the graph u, and means there, under every assignment, what the file alone says
abbrev pub ReadMeans : {V W : Type 0} → BooleanAlgebra V → State → Request W → Told W → State → Type 0
ReadMeans k s (And x y) a u = Unit {0}
ReadMeans k s (Apply op x y) a u = Unit {0}
ReadMeans k s (Read bytes places outs) a u = (n : ℕ) (map outputs : List Edge) → a ≡ read (Ok n) map outputs → FileMeans k bytes.now s (undefined places) (undefined outs) u map outputs
ReadMeans k s (Write os room) a u = Unit {0}
ReadMeans k s (Evaluate ins places) a u = Unit {0}
ReadMeans k s (Compare x y places) a u = Unit {0}
ReadMeans k s (Tabulate e places) a u = Unit {0}
ReadMeans k s Pairs a u = Unit {0}

-- what an evaluation gives the edges that were answered to a request made of s: the functions requested, at its inputs
pub data Worth {W : Type 0} (j : BooleanAlgebra W) (s : State) (r : Request W) (a : Told W) : Inputs W → Listed W → Type 0 where
  in_bits : {ins : Bor (List Bool)} {vs : List Bool} → Gives bit_algebra s r a (assigned bit_algebra ins.now) (means bit_algebra (at bit_algebra vs)) → Worth j s r a (inputs.Bits ins) (bits vs)
  in_blocks : {ins : Bor (List Block)} {vs : List Block} → Gives block_algebra s r a (assigned block_algebra ins.now) (means block_algebra (at block_algebra vs)) → Worth j s r a (inputs.Blocks ins) (blocks vs)
  in_tables : {ins : Bor (List (Cofactors (Cofactors Block)))} {vs : List (Cofactors (Cofactors Block))} → Gives table_algebra s r a (assigned table_algebra ins.now) (means table_algebra (at table_algebra vs))
      → Worth j s r a (inputs.Tables ins) (tables vs)
  in_others : {ins : Bor (List W)} {vs : List W} → Gives j s r a (assigned j ins.now) (means j (at j vs)) → Worth j s r a (inputs.Others ins) (others vs)

-- an evaluation at n that is not refused gives every edge answered at m the value of the function requested then
abbrev pub Evaluated : {W : Type 0} → BooleanAlgebra W → Moment W → Moment W → Type 0
Evaluated {W} j m n = (ins : Inputs W) (places : ℕ) (vs : Listed W) → n.request ≡ Evaluate ins places → n.answer ≡ valued (Ok tt) vs → Worth j m.before.graph m.request m.answer ins vs

-- how many pairs the answer says were stored, where it says so
abbrev pub Counted : {W : Type 0} → Told W → ℕ → ℕ → Type 0
Counted (anded (Ok a)) before after = after ≡ before + (if a.1 then 1 else 0)
Counted (anded (Err c)) before after = after ≡ before
Counted (applied (Ok a)) before after = after ≡ before + a.1
Counted (applied (Err c)) before after = before ≤ after
Counted (read (Ok n) map outputs) before after = after ≡ before + n
Counted (read (Err f) map outputs) before after = before ≤ after
Counted (written r text) before after = after ≡ before
Counted (valued r vs) before after = after ≡ before
Counted (compared r vs) before after = after ≡ before
Counted (tabulated r t vs) before after = after ≡ before
Counted (paired ps) before after = after ≡ before

-- the requests that leave the graph as it is
abbrev pub Question : {W : Type 0} → Request W → Type 0
Question (And x y) = ⊥
Question (Apply op x y) = ⊥
Question (Read bytes places outs) = ⊥
Question (Write os room) = Unit {0}
Question (Evaluate ins places) = Unit {0}
Question (Compare x y places) = Unit {0}
Question (Tabulate e places) = Unit {0}
Question Pairs = Unit {0}

-- what was answered at m and is asked again at n gets the same edges, and stores nothing
pub record Repeats {W : Type 0} (m n : Moment W) : Type 0 where
  -- an AND, with its operands in either order
  pub ands : (x y e : Edge) (flag : Bool) → m.request ≡ And x y → m.answer ≡ anded (Ok (e, flag)) → (n.request ≡ And x y) ⊎ (n.request ≡ And y x)
      → (n.answer ≡ anded (Ok (e, false))) × (n.after.graph ≡ n.before.graph)
  -- another operation, with its operands in either order where they can be exchanged
  pub operations : (op : Operation) (x y e : Edge) (i : ℕ) → m.request ≡ Apply op x y → m.answer ≡ applied (Ok (e, i)) → (n.request ≡ Apply op x y) ⊎ (Symmetric op × (n.request ≡ Apply op y x))
      → (n.answer ≡ applied (Ok (e, 0))) × (n.after.graph ≡ n.before.graph)
  -- a file, with as many places
  pub files : (bytes again : Bor (List ℕ)) (places outs i : ℕ) (map outputs : List Edge) → m.request ≡ Read bytes places outs → m.answer ≡ read (Ok i) map outputs → n.request ≡ Read again places outs
      → again.now ≡ bytes.now → (n.answer ≡ read (Ok 0) map outputs) × (n.after.graph ≡ n.before.graph)

-- what holds of a history, in any algebra k; j is the algebra of the evaluations that are not in bits, blocks or tables
pub record HistoryLaw {V W : Type 0} (k : BooleanAlgebra V) (j : BooleanAlgebra W) (b : Window → Reply) (ms : List (Moment W)) : Type 0 where
  -- from its moment on, each edge answered means, under every assignment, the function requested
  pub right : EachThen (λ m later. AllByRecursion (λ n. Right k m.before.graph m.request m.answer n.after.graph) (m ∷ later)) ms
  -- the same in bits, of which comparisons and truth tables speak
  pub right_in_bits : EachThen (λ m later. AllByRecursion (λ n. Right bit_algebra m.before.graph m.request m.answer n.after.graph) (m ∷ later)) ms
  -- and each edge of a taken file stays in the graph, and stands for what the file says
  pub files : EachThen (λ m later. AllByRecursion (λ n. ReadMeans k m.before.graph m.request m.answer n.after.graph) (m ∷ later)) ms
  -- each later evaluation gives each edge answered the value of the function requested
  pub evaluated : EachThen (λ m later. AllByRecursion (Evaluated j m) later) ms
  -- what an edge of the graph meant it still means
  pub lasting : EachThen (λ m later. (e : Edge) → Inside m.before.graph e → (ρ : ℕ → V) → AllByRecursion (λ n. meaning k ρ n.after.graph e ≡ meaning k ρ m.before.graph e) (m ∷ later)) ms
  -- every stored pair points only to earlier nodes, is stored once, is no trivial case, and no rule fits it
  pub well : AllByRecursion (λ m. Well b m.after.graph) ms
  -- the flag of an AND, and the number of an operation or a file, say how many pairs were stored
  pub counted : AllByRecursion (λ m. Counted m.answer (length m.before.graph.pairs) (length m.after.graph.pairs)) ms
  -- a question changes nothing
  pub questions : AllByRecursion (λ m. Question m.request → m.after ≡ m.before) ms
  pub repeats : EachThen (λ m later. AllByRecursion (Repeats m) later) ms

-- a run from v: its answers and its last graph are those of a history, and the law holds of it
pub record Ran {V W : Type 0} (k : BooleanAlgebra V) (j : BooleanAlgebra W) (b : Window → Reply) (v : World) (rs : List (Request W)) (answers : List (Told W)) (t : State) : Type 0 where
  pub moments : List (Moment W)
  pub last : World
  pub history : History j b v rs moments last
  pub answered : answers ≡ map (λ m. m.answer) moments
  pub graph : t ≡ last.graph
  pub law : HistoryLaw k j b moments

-- the law holds of every history that begins with a well-formed graph
abbrev pub LawKept : {V W : Type 0} → BooleanAlgebra V → BooleanAlgebra W → (Window → Reply) → Type 0
LawKept {V} {W} k j b = (rs : List (Request W)) (ms : List (Moment W)) (v w : World) → Well b v.graph → History j b v rs ms w → HistoryLaw k j b ms

-- what the law says of two moments, the second later
abbrev pub OfTwo : {V W : Type 0} → BooleanAlgebra V → BooleanAlgebra W → (Window → Reply) → Type 0
OfTwo {V} {W} k j b = (m n : Moment W) → HistoryLaw k j b (m ∷ n ∷ [])
    → Right k m.before.graph m.request m.answer n.after.graph
    × ReadMeans k m.before.graph m.request m.answer n.after.graph
    × Evaluated j m n
    × ((e : Edge) → Inside m.before.graph e → (ρ : ℕ → V) → meaning k ρ n.after.graph e ≡ meaning k ρ m.before.graph e)
    × Repeats m n
    × Right k n.before.graph n.request n.answer n.after.graph
    × Well b n.after.graph
    × Counted n.answer (length n.before.graph.pairs) (length n.after.graph.pairs)
    × (Question n.request → n.after ≡ n.before)
