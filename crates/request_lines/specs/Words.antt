-- The words that lines begin with.
-- Each word is written out.
use Rattle.std.specs.Prelude.{ℕ, List, codes}
use Rattle.request_lines.specs.declared.word.Word.{Word}
use Rattle.request_lines.specs.declared.word.Word.TheVariants.{Graph, And, Or, Implies, Equiv, Xor, Read, Evaluate, Compare, Table, Write, Pairs}

abbrev pub word_text : Word → List ℕ
word_text Graph = codes "graph"
word_text And = codes "and"
word_text Or = codes "or"
word_text Implies = codes "implies"
word_text Equiv = codes "equiv"
word_text Xor = codes "xor"
word_text Read = codes "read"
word_text Evaluate = codes "evaluate"
word_text Compare = codes "compare"
word_text Table = codes "table"
word_text Write = codes "write"
word_text Pairs = codes "pairs"
