use Rattle.std.proofs.Common.{eqb, sum, refl, ◌≡◌, ℕ, ◌<◌, List, [], ◌∷◌, get_or, sym, ap, ◌∙◌, arith}
use Rattle.std.specs.List.{position_or_len}
use Rattle.request_lines.specs.declared.word.Word.{Word as a_word}
use Rattle.request_lines.specs.declared.word.Word.TheVariants.{Graph, And, Or, Implies, Equiv, Xor, Read, Evaluate, Compare, Table, Write, Pairs}
use Rattle.request_lines.specs.Words.{word_text}
use Rattle.request_lines.proofs.word.Word.of.Goals as goal

abbrev all : List a_word
all = Graph ∷ And ∷ Or ∷ Implies ∷ Equiv ∷ Xor ∷ Read ∷ Evaluate ∷ Compare ∷ Table ∷ Write ∷ Pairs ∷ []

abbrev place : a_word → ℕ
place w = position_or_len (λ v. eqb (sum (word_text v)) (sum (word_text w))) all

has_place : (w : a_word) → (place w < 12) × (get_or all (place w) w ≡ w)
has_place Graph = (omega arith, refl)
has_place w = (omega arith, refl)

pub returns : goal.returns
returns c = record { answer = λ w e. c.loop-word.invariant (place w) w (omega (arith, (has_place w).0)) (e ∙ ap word_text (sym (has_place w).1)) }
