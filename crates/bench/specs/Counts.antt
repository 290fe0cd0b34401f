-- What the counts of a job are.
-- They are said by the calls that it makes, as these are defined elsewhere; no store occurs but by its limit.
use Rattle.std.specs.Prelude.{◌≡◌, ℕ, ◌<◌, true, List, length, Ok, Option, Some, None}
use Rattle.values.specs.declared.block.Block.{Block}
use Rattle.values.specs.Blocks.{block_algebra}
use Rattle.rules.specs.declared.edge.Edge.{Edge}
use Rattle.rules.specs.declared.window.Window.{Window}
use Rattle.rules.specs.declared.window.Reply.{Reply}
use Rattle.rules.specs.RuleLists.{by_rules}
use Rattle.rulesets.specs.declared.levels.OptLevel.TheVariants.{Three}
use Rattle.rulesets.specs.Levels.{level_rules}
use Rattle.graph_model.specs.WellFormed.{new_state}
use Rattle.graph_model.specs.Graphs.{State, node_values}
use Rattle.aiger_read.specs.Reads.{Reads}
use Rattle.aiger_write.specs.Writing.{write_of}
use Rattle.questions.specs.Evaluation.{assigned}
use Rattle.questions.specs.Assignments.{assignment}
use Rattle.workloads.specs.declared.question.Question.{Question}
use Rattle.workloads.specs.declared.question.Question.TheVariants.{Parities, Conjunction}
use Rattle.workloads.specs.Growths.{Growth, grown_to}
use Rattle.workloads.specs.Questions.{all_true}
use Rattle.workloads.specs.Randoms.{seed}
use Rattle.workloads.specs.Words.{words_of, words, xor_from}

-- a circuit file that is read at level three into a new graph of 100 inputs, and the graph written: so many nodes and bytes
pub record Presses (bytes : List ℕ) (limit max_edge nodes written : ℕ) : Type 0 where
  pub rules : Window → Reply
  pub level : rules ≡ by_rules (level_rules Three)
  pub start : State
  pub new : start ≡ new_state 100 limit max_edge
  pub old_map : List Edge
  pub old_outputs : List Edge
  pub graph : State
  pub map : List Edge
  pub outputs : List Edge
  pub reads : Reads rules bytes start old_map old_outputs (Ok nodes) graph map outputs
  pub text : List ℕ
  pub writes : write_of graph outputs text ≡ Ok written

-- a graph of 100 inputs that is grown at level three, with room for `limit` pairs
abbrev pub grown : ℕ → ℕ → ℕ → Growth
grown m limit max_edge = grown_to (by_rules (level_rules Three)) m (new_state 100 limit max_edge) seed

-- so many calls, after which there are so many nodes
abbrev pub Grows : ℕ → ℕ → ℕ → ℕ → ℕ → Type 0
Grows m limit max_edge calls nodes = ((grown m limit max_edge).answer ≡ Ok calls) × (nodes ≡ length (grown m limit max_edge).graph.pairs)

-- so many nodes, and the XOR of the values of all nodes, where the inputs have the next words of the stream
abbrev pub Evaluates : ℕ → ℕ → ℕ → ℕ → ℕ → Type 0
Evaluates m limit max_edge nodes xor =
    (nodes ≡ length (grown m limit max_edge).graph.pairs)
    × (ins : List Block)
    × (words_of ins ≡ words 100 (grown m limit max_edge).state)
    × (xor ≡ xor_from 0 (words_of (node_values block_algebra (assigned block_algebra ins) (grown m limit max_edge).graph)))

-- the two XORs of all inputs never differ; the AND of all and false do where every input is true
abbrev pub Found : Question → Option ℕ → Type 0
Found Parities d = d ≡ None
Found Conjunction d = (k : ℕ) × (d ≡ Some k) × (k < 65536) × (all_true (assignment k) 16 ≡ true)
