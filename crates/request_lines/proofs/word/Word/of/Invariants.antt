use Rattle.std.proofs.Common.{ℕ, ◌<◌, ◌≢◌, get_or}
use Rattle.request_lines.specs.declared.word.Word.{Word as a_word}
use Rattle.request_lines.specs.Words.{word_text}
use Rattle.request_lines.proofs.word.Word.of.Given as goal

-- none of the words before is these bytes
abbrev pub invariant-loop-word : goal.invariant-loop-word
invariant-loop-word l = (k : ℕ) (w : a_word) → k < l.word-index → l.bytes ≢ word_text (get_or l.word-items k w)
