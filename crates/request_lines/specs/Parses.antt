-- What reading a line answers.
-- A line that is read has the text that it was read from, and one that is not read has no meaning at all.
use Rattle.std.specs.Prelude.{◌≡◌, ℕ, List, [], ◌∷◌, map, Some, None, Option, ◌≢◌}
use Rattle.request_lines.specs.declared.line.Line.{Line}
use Rattle.request_lines.specs.declared.word.Word.{Word}
use Rattle.request_lines.specs.declared.word.Word.TheVariants as word
use Rattle.request_lines.specs.Lines.{Said, graph, and, apply, compare, table, write, said, level_number, word_of, parts_of, text_of, Sayable}

-- the line that has this text, or none has it
abbrev pub Parsed : List ℕ → Option Line → Type 0
Parsed bs None = (l : Said) → Sayable l → bs ≢ text_of l
Parsed bs (Some l) = Sayable (said l) × (bs ≡ text_of (said l))

-- the line with this word and these parts, or none has them
abbrev pub PartsParsed : Word → List ℕ → Option Line → Type 0
PartsParsed w bs None = (l : Said) → Sayable l → word_of l ≡ w → bs ≢ parts_of l
PartsParsed w bs (Some l) = Sayable (said l) × (word_of (said l) ≡ w) × (bs ≡ parts_of (said l))

-- the words that only numbers follow
abbrev pub Numbered : Word → Type 0
Numbered word.Read = ⊥
Numbered word.Evaluate = ⊥
Numbered word.Pairs = ⊥
Numbered w = Unit {0}

-- the words that two edges follow
abbrev pub Two : Word → Type 0
Two word.Graph = ⊥
Two word.Table = ⊥
Two word.Write = ⊥
Two w = Numbered w

-- the numbers of a line, where only numbers follow its word
abbrev pub numbers_of : Said → List ℕ
numbers_of (graph i l r) = i ∷ level_number l ∷ r ∷ []
numbers_of (and x y) = x.0 ∷ y.0 ∷ []
numbers_of (apply op x y) = x.0 ∷ y.0 ∷ []
numbers_of (compare x y) = x.0 ∷ y.0 ∷ []
numbers_of (table e) = e.0 ∷ []
numbers_of (write es) = map (λ e. e.0) es
numbers_of l = []

-- the line with this word and these numbers, or none has them
abbrev pub NumbersParsed : Word → List ℕ → Option Line → Type 0
NumbersParsed w ns None = (l : Said) → Sayable l → word_of l ≡ w → ns ≢ numbers_of l
NumbersParsed w ns (Some l) = Sayable (said l) × (word_of (said l) ≡ w) × (ns ≡ numbers_of (said l))
