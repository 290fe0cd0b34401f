-- A line by its word and what follows it.
use Rattle.std.proofs.Common.{rules, ◌≡◌, ℕ, ◌<◌, Bool, nat_eq, List, [], ◌∷◌, ◌++◌, map, sum, cond, Some, None, Option, ◌≢◌, sym, refl, ap, ◌∙◌, subst, inl, inr, arith}
use Rattle.std.specs.List.{AllByRecursion}
use Rattle.rules.specs.declared.edge.Edge.{Edge}
use Rattle.rules.specs.Edges.{edge}
use Rattle.rulesets.specs.declared.levels.OptLevel.{OptLevel}
use Rattle.rulesets.specs.declared.levels.OptLevel.TheVariants.{One}
use Rattle.request_lines.specs.declared.line.Line.{Line}
use Rattle.request_lines.specs.declared.word.Word.{Word}
use Rattle.request_lines.specs.declared.word.Word.TheVariants as word
use Rattle.request_lines.specs.Words.{word_text}
use Rattle.request_lines.specs.Lines.{Said, graph, read, evaluate, write, pairs, said, level_number, numbers_text, Short, ShortEdges, Sayable, word_of, parts_of, text_of, bits_text}
use Rattle.request_lines.specs.Parts.{Spaceless, Spaced, Cut}
use Rattle.request_lines.specs.Parses.{Parsed, PartsParsed, Numbered, numbers_of, NumbersParsed}
use Rattle.request_lines.proofs.Texts.{one_cut, numbers_spaced, numbers_once}

numbered_parts : (l : Said) → Numbered (word_of l) → parts_of l ≡ numbers_text (numbers_of l)
numbered_parts (read path) h = absurd h
numbered_parts (evaluate bits) h = absurd h
numbered_parts pairs h = absurd h
numbered_parts l h = refl

level_short : (v : OptLevel) → Short (level_number v)
level_short One = omega arith
level_short v = omega arith

short_map : (es : List Edge) → ShortEdges es → AllByRecursion Short (map (λ (e : Edge). e.0) es)
short_map [] h = tt
short_map (e ∷ es) h = (h.0, short_map es h.1)

-- numbers as edges
pub short_edges : (ns : List ℕ) → AllByRecursion Short ns → ShortEdges (map edge ns)
short_edges [] h = tt
short_edges (n ∷ ns) h = (h.0, short_edges ns h.1)

short_numbers : (l : Said) → Sayable l → AllByRecursion Short (numbers_of l)
short_numbers (graph i v r) h = (h.0, (level_short v, (h.1, tt)))
short_numbers (read path) h = tt
short_numbers (evaluate bits) h = tt
short_numbers (write es) h = short_map es h
short_numbers pairs h = tt
short_numbers l h = h

numbered_as : (l : Said) (w : Word) → Numbered w → word_of l ≡ w → parts_of l ≡ numbers_text (numbers_of l)
numbered_as l w h e = let P : Word → Type 0 = λ z. Numbered z in numbered_parts l (subst P (sym e) h)

-- a line of numbers by its parts
pub by_parts : (w : Word) (bs ns : List ℕ) (o : Option Line) → Numbered w → bs ≡ numbers_text ns → AllByRecursion Short ns → NumbersParsed w ns o → PartsParsed w bs o
by_parts w bs ns None n e a h = λ l s f g. h l s f (numbers_once ns (numbers_of l) a (short_numbers l s) (sym e ∙ g ∙ numbered_as l w n f))
by_parts w bs ns (Some l) n e a h = (h.0, h.1, e ∙ ap numbers_text h.2 ∙ sym (numbered_as (said l) w n h.1))

pub none_by_parts : (w : Word) (bs : List ℕ) → Numbered w → ((ns : List ℕ) → AllByRecursion Short ns → bs ≢ numbers_text ns) → PartsParsed w bs None
none_by_parts w bs n h = λ l s f g. h (numbers_of l) (short_numbers l s) (g ∙ numbered_as l w n f)

-- the words are told apart by the sums of their bytes
abbrev by_sum : ℕ → Word
by_sum n =
    cond (nat_eq n 530) word.Graph (cond (nat_eq n 307) word.And (cond (nat_eq n 225) word.Or (cond (nat_eq n 755) word.Implies (cond (nat_eq n 554) word.Equiv (cond (nat_eq n 345) word.Xor
    (cond (nat_eq n 412) word.Read (cond (nat_eq n 855) word.Evaluate (cond (nat_eq n 743) word.Compare (cond (nat_eq n 520) word.Table (cond (nat_eq n 555) word.Write word.Pairs))))))))))

told_apart : (w : Word) → by_sum (sum (word_text w)) ≡ w
told_apart word.Graph = refl
told_apart w = refl

one_word : (v w : Word) → word_text v ≡ word_text w → v ≡ w
one_word v w e = sym (told_apart v) ∙ ap (λ z. by_sum (sum z)) e ∙ told_apart w

above_space : (b : ℕ) → 32 < b → b ≢ 32
above_space b l e = omega arith

abbrev Letters : List ℕ → Type 0
Letters bs = AllByRecursion (λ (b : ℕ). 32 < b) bs

letters_spaceless : (bs : List ℕ) → Letters bs → Spaceless bs
letters_spaceless [] h = tt
letters_spaceless (b ∷ bs) h = (above_space b h.0, letters_spaceless bs h.1)

word_letters : (w : Word) → Letters (word_text w)
word_letters word.Graph = search rules
word_letters w = search rules

bits_spaced : (bs : List Bool) → Spaced (bits_text bs)
bits_spaced [] = inl refl
bits_spaced (b ∷ bs) = inr (_, refl)

parts_spaced : (l : Said) → Spaced (parts_of l)
parts_spaced (read path) = inr (path, refl)
parts_spaced (evaluate bits) = bits_spaced bits
parts_spaced pairs = inl refl
parts_spaced l = numbers_spaced (numbers_of l)

line_cut : (l : Said) → Cut (text_of l) (word_text (word_of l)) (parts_of l)
line_cut l = record { whole = refl; first = letters_spaceless (word_text (word_of l)) (word_letters (word_of l)); more = parts_spaced l }

cut_as : (bs first parts : List ℕ) (l : Said) → Cut bs first parts → bs ≡ text_of l → (first ≡ word_text (word_of l)) × (parts ≡ parts_of l)
cut_as bs first parts l c e =
    let P : List ℕ → Type 0 = λ z. Cut z first parts in
    one_cut (text_of l) first (word_text (word_of l)) parts (parts_of l) (subst P e c) (line_cut l)

-- no line begins with another word
pub no_word : (bs first parts : List ℕ) → Cut bs first parts → ((w : Word) → first ≢ word_text w) → Parsed bs None
no_word bs first parts c h = λ l s e. h (word_of l) (cut_as bs first parts l c e).0

-- a line by its word and its parts
pub by_word : (bs first parts : List ℕ) (w : Word) (o : Option Line) → Cut bs first parts → first ≡ word_text w → PartsParsed w parts o → Parsed bs o
by_word bs first parts w None c f h = λ l s e. let k = cut_as bs first parts l c e in h l s (one_word (word_of l) w (sym k.0 ∙ f)) k.1
by_word bs first parts w (Some l) c f h = (h.0, c.whole ∙ ap (λ z. z ++ parts) (f ∙ ap word_text (sym h.1)) ∙ ap (λ z. word_text (word_of (said l)) ++ z) h.2)
