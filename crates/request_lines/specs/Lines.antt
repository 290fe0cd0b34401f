-- What lines say, by the values in them, and the bytes of a line that says it.
-- A line is its text, and reading is proved to be the inverse (`Parsed`).
use Rattle.std.specs.Prelude.{ℕ, ◌^◌, ◌<◌, Bool, List, [], ◌∷◌, ◌++◌, map, decimal, ◌≢◌, string_bytes, vec_items, if◌then◌else◌}
use Rattle.std.specs.Str.{IsUtf8}
use Rattle.std.specs.List.{AllByRecursion}
use Rattle.rules.specs.declared.edge.Edge.{Edge}
use Rattle.rulesets.specs.declared.levels.OptLevel.{OptLevel}
use Rattle.rulesets.specs.declared.levels.OptLevel.TheVariants.{One, Two, Three, Four}
use Rattle.graph_model.specs.declared.operation.Operation.{Operation}
use Rattle.graph_model.specs.declared.operation.Operation.TheVariants as operation
use Rattle.request_lines.specs.declared.line.Ask.{Ask}
use Rattle.request_lines.specs.declared.line.Ask.TheVariants as an_ask
use Rattle.request_lines.specs.declared.line.Line.{Line}
use Rattle.request_lines.specs.declared.line.Line.TheVariants as a_line
use Rattle.request_lines.specs.declared.word.Word.{Word}
use Rattle.request_lines.specs.declared.word.Word.TheVariants as word
use Rattle.request_lines.specs.Words.{word_text}

-- what a line says
pub data Said : Type 0 where
  graph : ℕ → OptLevel → ℕ → Said
  and : Edge → Edge → Said
  apply : Operation → Edge → Edge → Said
  read : List ℕ → Said
  evaluate : List Bool → Said
  compare : Edge → Edge → Said
  table : Edge → Said
  write : List Edge → Said
  pairs : Said

abbrev pub asked : Ask → Said
asked (an_ask.And x y) = and x y
asked (an_ask.Apply op x y) = apply op x y
asked (an_ask.Evaluate v) = evaluate (vec_items v)
asked (an_ask.Compare x y) = compare x y
asked (an_ask.Table e) = table e
asked (an_ask.Write v) = write (vec_items v)
asked an_ask.Pairs = pairs

abbrev pub said : Line → Said
said (a_line.Graph o) = graph o.inputs o.level o.records
said (a_line.Read path) = read (string_bytes path)
said (a_line.Ask a) = asked a

abbrev pub operation_word : Operation → Word
operation_word operation.Or = word.Or
operation_word operation.Implies = word.Implies
operation_word operation.Equiv = word.Equiv
operation_word operation.Xor = word.Xor

abbrev pub word_of : Said → Word
word_of (graph i l r) = word.Graph
word_of (and x y) = word.And
word_of (apply op x y) = operation_word op
word_of (read path) = word.Read
word_of (evaluate bits) = word.Evaluate
word_of (compare x y) = word.Compare
word_of (table e) = word.Table
word_of (write es) = word.Write
word_of pairs = word.Pairs

abbrev pub level_number : OptLevel → ℕ
level_number One = 1
level_number Two = 2
level_number Three = 3
level_number Four = 4

-- a space before each number
abbrev pub numbers_text : List ℕ → List ℕ
numbers_text [] = []
numbers_text (n ∷ ns) = 32 ∷ (decimal n ++ numbers_text ns)

abbrev pub edges_text : List Edge → List ℕ
edges_text es = numbers_text (map (λ e. e.0) es)

-- `0` or `1`
abbrev pub bit_digit : Bool → ℕ
bit_digit b = if b then 49 else 48

-- a space before the digits, where there are any
abbrev pub bits_text : List Bool → List ℕ
bits_text [] = []
bits_text (b ∷ bs) = 32 ∷ map bit_digit (b ∷ bs)

-- what follows the word
abbrev pub parts_of : Said → List ℕ
parts_of (graph i l r) = numbers_text (i ∷ level_number l ∷ r ∷ [])
parts_of (and x y) = edges_text (x ∷ y ∷ [])
parts_of (apply op x y) = edges_text (x ∷ y ∷ [])
parts_of (read path) = 32 ∷ path
parts_of (evaluate bits) = bits_text bits
parts_of (compare x y) = edges_text (x ∷ y ∷ [])
parts_of (table e) = edges_text (e ∷ [])
parts_of (write es) = edges_text es
parts_of pairs = []

-- the line's bytes, without its end
abbrev pub text_of : Said → List ℕ
text_of l = word_text (word_of l) ++ parts_of l

abbrev pub Short : ℕ → Type 0
Short n = n < 2 ^ 32

-- each number of these edges takes 32 bits
abbrev pub ShortEdges : List Edge → Type 0
ShortEdges es = AllByRecursion (λ (e : Edge). Short e.0) es

-- the numbers take 32 bits, and a path is text and not empty
abbrev pub Sayable : Said → Type 0
Sayable (graph i l r) = Short i × Short r
Sayable (and x y) = ShortEdges (x ∷ y ∷ [])
Sayable (apply op x y) = ShortEdges (x ∷ y ∷ [])
Sayable (read path) = (path ≢ []) × IsUtf8 path
Sayable (compare x y) = ShortEdges (x ∷ y ∷ [])
Sayable (table e) = ShortEdges (e ∷ [])
Sayable (write es) = ShortEdges es
Sayable l = Unit {0}
