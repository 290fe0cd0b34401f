-- Histories: what each request of a list is answered, and what the graph is after it.
-- Each request is answered by the definition of its own call; what is added here is only the order.
use Rattle.std.specs.Prelude.{◌≡◌, ℕ, Bool, List, [], ◌∷◌, length, take, replicate, IfOk, Ok, Err, vec_items, Result, Option}
use Rattle.std.specs.Borrow.{Bor}
use Rattle.values.specs.Algebra.{BooleanAlgebra}
use Rattle.values.specs.Bit.{bit_algebra}
use Rattle.values.specs.Blocks.{block_algebra}
use Rattle.values.specs.Rows.{table_algebra}
use Rattle.values.specs.declared.block.Block.{Block}
use Rattle.values.specs.declared.cofactors.Cofactors.{Cofactors}
use Rattle.rules.specs.declared.edge.Edge.{Edge}
use Rattle.rules.specs.declared.pair.Pair.{Pair}
use Rattle.rules.specs.declared.window.Window.{Window}
use Rattle.rules.specs.declared.window.Reply.{Reply}
use Rattle.rules.specs.Edges.{undefined_edge}
use Rattle.graph_model.specs.declared.operation.Operation.{Operation}
use Rattle.graph_model.specs.declared.refusal.Refusal.{Refusal}
use Rattle.graph_model.specs.Graphs.{State}
use Rattle.graph_model.specs.Requests.{and_of}
use Rattle.graph_model.specs.Operations.{apply_of}
use Rattle.graph_model.specs.WellFormed.{new_state}
use Rattle.questions.specs.Comparison.{Compares, compared as comparison_of, blocks_after}
use Rattle.questions.specs.Evaluation.{evaluation, evaluated}
use Rattle.questions.specs.Tabulation.{tabulation, tables_after, table_after}
use Rattle.aiger_lines.specs.declared.fields.Header.{Header}
use Rattle.aiger_check.specs.declared.faults.CircuitFault.{CircuitFault}
use Rattle.aiger_check.specs.Text.{lines}
use Rattle.aiger_check.specs.Files.{HeaderAt}
use Rattle.aiger_read.specs.Reads.{Reads}
use Rattle.aiger_write.specs.Writing.{write_of, written as text_written}
use Rattle.history_model.specs.declared.request.Answer.{Answer}
use Rattle.history_model.specs.declared.request.Answer.TheVariants as answer
use Rattle.history_model.specs.declared.request.Inputs.{Inputs}
use Rattle.history_model.specs.declared.request.Inputs.TheVariants as inputs
use Rattle.history_model.specs.declared.request.NodeValues.{NodeValues}
use Rattle.history_model.specs.declared.request.NodeValues.TheVariants as values
use Rattle.history_model.specs.declared.request.Outputs.{Outputs}
use Rattle.history_model.specs.declared.request.Outputs.TheVariants.{Edges, LastFile}
use Rattle.history_model.specs.declared.request.Request.{Request}
use Rattle.history_model.specs.declared.request.Request.TheVariants.{And, Apply, Read, Write, Evaluate, Compare, Tabulate, Pairs}

-- the truth table of a function of at most eight inputs
abbrev pub Table : Type 0
Table = Cofactors (Cofactors Block)

-- a list of values in one of the algebras
pub data Listed (W : Type 0) : Type 0 where
  bits : List Bool → Listed W
  blocks : List Block → Listed W
  tables : List Table → Listed W
  others : List W → Listed W

-- an answer by the values in it
pub data Told (W : Type 0) : Type 0 where
  anded : Result (Edge × Bool) Refusal → Told W
  applied : Result (Edge × ℕ) Refusal → Told W
  read : Result ℕ CircuitFault → List Edge → List Edge → Told W
  written : Result ℕ Refusal → List ℕ → Told W
  valued : Result (Unit {0}) Refusal → Listed W → Told W
  compared : Result (Option ℕ) Refusal → List Block → Told W
  tabulated : Result (Unit {0}) Refusal → Table → List Table → Told W
  paired : List Pair → Told W

abbrev pub listed : {W : Type 0} → NodeValues W → Listed W
listed (values.Bits vs) = bits (vec_items vs)
listed (values.Blocks vs) = blocks (vec_items vs)
listed (values.Tables vs) = tables (vec_items vs)
listed (values.Others vs) = others (vec_items vs)

abbrev pub told : {W : Type 0} → Answer W → Told W
told (answer.And r) = anded r
told (answer.Apply r) = applied r
told (answer.Read r map outputs) = read r (vec_items map) (vec_items outputs)
told (answer.Write r text) = written r (vec_items text)
told (answer.Evaluate r vs) = valued r (listed vs)
told (answer.Compare r vs) = compared r (vec_items vs)
told (answer.Tabulate r table vs) = tabulated r table (vec_items vs)
told (answer.Pairs ps) = paired (vec_items ps)

-- a graph, and the outputs of the file that was taken last
pub record World : Type 0 where
  pub graph : State
  pub outputs : List Edge

abbrev pub new_world : ℕ → ℕ → ℕ → World
new_world inputs limit max_edge = record { graph = new_state inputs limit max_edge; outputs = [] }

-- the edges that a request to write names, where these are the outputs of the file that was taken last
abbrev pub named : List Edge → Outputs → List Edge
named last (Edges os) = os.now
named last LastFile = last

-- after one more file: a taken one's outputs, as many as its header names, are the last; a refused one changes nothing
abbrev pub LastOutputs : List ℕ → Result ℕ CircuitFault → List Edge → List Edge → List Edge → Type 0
LastOutputs bytes (Ok n) outputs before after = (h : Header) × HeaderAt (lines bytes) h × (after ≡ take h.outputs outputs)
LastOutputs bytes (Err f) outputs before after = after ≡ before

-- a taken file has a header
abbrev pub Headed : List ℕ → Result ℕ CircuitFault → Type 0
Headed bytes (Ok n) = (h : Header) × HeaderAt (lines bytes) h
Headed bytes (Err f) = Unit {0}

-- so many places, each undefined
abbrev pub undefined : ℕ → List Edge
undefined n = replicate n undefined_edge

-- an evaluation in the algebra k, into a list of so many places: its answer, and the list after it
pub record EvaluatesIn {K : Type 0} (k : BooleanAlgebra K) (s : State) (ins : List K) (places : ℕ) (r : Result (Unit {0}) Refusal) (vs : List K) : Type 0 where
  pub answer : r ≡ evaluation s (length ins) places
  pub values : vs ≡ evaluated k s ins (replicate places k.bottom)

-- the same in the algebra of the inputs, where j is the algebra of the other values
pub data Evaluates {W : Type 0} (j : BooleanAlgebra W) (s : State) (places : ℕ) (r : Result (Unit {0}) Refusal) : Inputs W → Listed W → Type 0 where
  by_bits : {ins : Bor (List Bool)} {vs : List Bool} → EvaluatesIn bit_algebra s ins.now places r vs → Evaluates j s places r (inputs.Bits ins) (bits vs)
  by_blocks : {ins : Bor (List Block)} {vs : List Block} → EvaluatesIn block_algebra s ins.now places r vs → Evaluates j s places r (inputs.Blocks ins) (blocks vs)
  by_tables : {ins : Bor (List Table)} {vs : List Table} → EvaluatesIn table_algebra s ins.now places r vs → Evaluates j s places r (inputs.Tables ins) (tables vs)
  by_others : {ins : Bor (List W)} {vs : List W} → EvaluatesIn j s ins.now places r vs → Evaluates j s places r (inputs.Others ins) (others vs)

-- a request made of v, its answer, and what v becomes
pub data Happens {W : Type 0} (j : BooleanAlgebra W) (b : Window → Reply) (v : World) : Request W → Told W → World → Type 0 where
  asked : {x y : Edge} {a : Result (Edge × Bool) Refusal} {t : State} → a ≡ (and_of b v.graph x y).answer → t ≡ (and_of b v.graph x y).after
      → Happens j b v (And x y) (anded a) (record { graph = t; outputs = v.outputs })
  operated : {op : Operation} {x y : Edge} {a : Result (Edge × ℕ) Refusal} {t : State} → a ≡ (apply_of b v.graph op x y).answer → t ≡ (apply_of b v.graph op x y).after
      → Happens j b v (Apply op x y) (applied a) (record { graph = t; outputs = v.outputs })
  loaded : {bytes : Bor (List ℕ)} {places outs : ℕ} {r : Result ℕ CircuitFault} {t : State} {map outputs last : List Edge}
      → Reads b bytes.now v.graph (undefined places) (undefined outs) r t map outputs → LastOutputs bytes.now r outputs v.outputs last
      → Happens j b v (Read bytes places outs) (read r map outputs) (record { graph = t; outputs = last })
  saved : {os : Outputs} {room : ℕ} {a : Result ℕ Refusal} {text : List ℕ} → a ≡ write_of v.graph (named v.outputs os) (replicate room 0) → text ≡ text_written v.graph (named v.outputs os) (replicate room 0)
      → Happens j b v (Write os room) (written a text) v
  calculated : {ins : Inputs W} {places : ℕ} {r : Result (Unit {0}) Refusal} {vs : Listed W} → Evaluates j v.graph places r ins vs → Happens j b v (Evaluate ins places) (valued r vs) v
  contrasted : {x y : Edge} {places : ℕ} {r : Result (Option ℕ) Refusal} {vs : List Block} → r ≡ comparison_of v.graph x y places → vs ≡ blocks_after r v.graph (replicate places block_algebra.bottom)
      → IfOk r (Compares v.graph x y) → Happens j b v (Compare x y places) (compared r vs) v
  charted : {e : Edge} {places : ℕ} {r : Result (Unit {0}) Refusal} {table : Table} {vs : List Table} → r ≡ tabulation v.graph e places → table ≡ table_after r v.graph e table_algebra.bottom
      → vs ≡ tables_after r v.graph (replicate places table_algebra.bottom) → Happens j b v (Tabulate e places) (tabulated r table vs) v
  shown : {ps : List Pair} → ps ≡ v.graph.pairs → Happens j b v Pairs (paired ps) v

pub record Moment (W : Type 0) : Type 0 where
  pub before : World
  pub request : Request W
  pub answer : Told W
  pub after : World

-- one moment for each request, each where the one before it ended, from v to w
abbrev pub History : {W : Type 0} → BooleanAlgebra W → (Window → Reply) → World → List (Request W) → List (Moment W) → World → Type 0
History j b v [] [] w = w ≡ v
History j b v [] (m ∷ ms) w = ⊥
History j b v (r ∷ rs) [] w = ⊥
History j b v (r ∷ rs) (m ∷ ms) w = (m.before ≡ v) × (m.request ≡ r) × Happens j b m.before m.request m.answer m.after × History j b m.after rs ms w
