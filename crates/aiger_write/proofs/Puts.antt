-- One text after another into a buffer, and the numbers of a line.
use Rattle.std.proofs.Common.{◌≡◌, ℕ, suc, ◌+◌, ◌-◌, ◌*◌, ◌^◌, ◌<◌, ◌≤◌, cond, ltb, List, [], ◌∷◌, ◌++◌, length, get_or, drop, set, decimal, sym, refl, ap, ◌∙◌, add-zero, append_assoc, append-nil, arith, length-append, length-drop, length-set}
use Rattle.std.proofs.lemmas.Fmt.{length-decimal-le}
use Rattle.std.proofs.lemmas.List.{drop_more}
use Rattle.std.proofs.lemmas.Bool.{cond-true, cond-false, lt-ltb, le-ltb}
use Rattle.aiger_write.specs.declared.sink.Sink.{Sink}
use Rattle.aiger_write.specs.Buffers.{put}
use Rattle.aiger_write.specs.Sinks.{HasTaken}
use Rattle.aiger_write.specs.Texts.{line_text}

-- one text after another
pub put-put : (s t : List ℕ) (xs : List ℕ) (at : ℕ) → put (put xs at s) (at + length s) t ≡ put xs at (s ++ t)
unfolding put
put-put [] t xs at = ap (λ n. put xs n t) (add-zero at)
put-put (b ∷ s) t xs at = (let e : at + suc (length s) ≡ at + 1 + length s = omega arith in ap (λ n. put (put (set xs at b) (at + 1) s) n t) e) ∙ put-put s t (set xs at b) (at + 1)

-- a buffer keeps its length
pub put-length : (s xs : List ℕ) (at : ℕ) → length (put xs at s) ≡ length xs
unfolding put
put-length [] xs at = refl
put-length (b ∷ s) xs at = put-length s (set xs at b) (at + 1) ∙ length-set xs at b

-- a byte before the buffer
put_under : (s xs : List ℕ) (x at : ℕ) → put (x ∷ xs) (suc at) s ≡ x ∷ put xs at s
unfolding put
put_under [] xs x at = refl
put_under (b ∷ s) xs x at = (let e : suc at + 1 ≡ suc (at + 1) = omega arith in ap (λ n. put (x ∷ set xs at b) n s) e) ∙ put_under s (set xs at b) x (at + 1)

-- a text that fits stands at the front, and the rest is kept
pub put_front : (s xs : List ℕ) → length s ≤ length xs → put xs 0 s ≡ s ++ drop (length s) xs
unfolding put
put_front [] xs l = refl
put_front (b ∷ s) [] l = absurd (omega arith)
put_front (b ∷ s) (x ∷ xs) l = (let e : 0 + 1 ≡ suc 0 = omega arith in ap (λ n. put (b ∷ xs) n s) e) ∙ put_under s xs b 0 ∙ ap (λ ys. b ∷ ys) (put_front s xs (omega arith))

pub HasTaken-append : (a b : List ℕ) (s t u : Sink) → HasTaken a s t → HasTaken b t u → HasTaken (a ++ b) s u
HasTaken-append a b s t u x y = record {
  at = omega (arith, x.at, y.at, length-append a b);
  text = y.text ∙ (λ i. put (x.text i) (x.at i) b) ∙ put-put a b s.text.now s.at;
  buffer = y.buffer ∙ x.buffer;
}

-- t is s after a front of the whole text, and this is what is left of it
abbrev pub Due : List ℕ → List ℕ → Sink → Sink → Type 0
Due whole left s t = (front : List ℕ) × (front ++ left ≡ whole) × HasTaken front s t

pub Due-all : (whole : List ℕ) (s : Sink) → Due whole whole s s
unfolding put
Due-all whole s = ([], refl, record { at = sym (add-zero s.at); text = refl; buffer = refl })

pub Due-at : (whole left : List ℕ) (s t : Sink) → Due whole left s t → t.at + length left ≡ s.at + length whole
Due-at whole left s t d = omega (arith, ap length d.1, length-append d.0 left, d.2.at)

-- the front of what is left fits where the whole does
pub Due-fits : (whole left a rest : List ℕ) (s t : Sink) → Due whole left s t → left ≡ a ++ rest → s.at + length whole < 2 ^ 64 → t.at + length a < 2 ^ 64
Due-fits whole left a rest s t d split l = omega (arith, Due-at whole left s t d, ap length split, length-append a rest)

pub Due-more : (whole left a rest : List ℕ) (s t u : Sink) → Due whole left s t → left ≡ a ++ rest → HasTaken a t u → Due whole rest s u
Due-more whole left a rest s t u d split x = (
  d.0 ++ a,
  append_assoc d.0 a rest ∙ ap (λ r. d.0 ++ r) (sym split) ∙ d.1,
  HasTaken-append d.0 a s t u d.2 x,
)

pub Due-is : (whole left other : List ℕ) (s t : Sink) → Due whole left s t → left ≡ other → Due whole other s t
Due-is whole left other s t d e = (d.0, ap (λ r. d.0 ++ r) (sym e) ∙ d.1, d.2)

-- two stretches of a text
pub Due-then : (whole mid left : List ℕ) (s t u : Sink) → Due whole mid s t → Due mid left t u → Due whole left s u
Due-then whole mid left s t u d e = Due-more whole mid e.0 left s t u d (sym e.1) e.2

-- nothing more is left
pub Due-none : (whole left : List ℕ) (s t : Sink) → Due whole left s t → left ≡ [] → HasTaken whole s t
Due-none whole left s t d none = rw (sym (sym (append-nil d.0) ∙ ap (λ r. d.0 ++ r) (sym none) ∙ d.1)) d.2

-- the numbers of a line from number i on
pub line_more : (ns : List ℕ) (i : ℕ) → i < length ns → line_text (drop i ns) ≡ decimal (get_or ns i 0) ++ (cond (ltb (i + 1) (length ns)) 32 10 ∷ line_text (drop (i + 1) ns))
unfolding line_text
line_more ns i l = ap line_text (drop_more ns i 0 l) ∙ go (drop (i + 1) ns) (length-drop (i + 1) ns)
  where
    go : (rest : List ℕ) → length rest ≡ length ns - (i + 1) → line_text (get_or ns i 0 ∷ rest) ≡ decimal (get_or ns i 0) ++ (cond (ltb (i + 1) (length ns)) 32 10 ∷ line_text rest)
    go [] e = ap (λ b. decimal (get_or ns i 0) ++ (b ∷ [])) (sym (cond-false (ltb (i + 1) (length ns)) 32 10 (le-ltb (i + 1) (length ns) (omega arith))))
    go (v ∷ vs) e = ap (λ b. decimal (get_or ns i 0) ++ (b ∷ line_text (v ∷ vs))) (sym (cond-true (ltb (i + 1) (length ns)) 32 10 (lt-ltb (i + 1) (length ns) (omega arith))))

pub line_longer : (ns : List ℕ) (i : ℕ) → i < length ns → length (decimal (get_or ns i 0)) + 1 ≤ length (line_text (drop i ns))
line_longer ns i l = omega (arith, ap length (line_more ns i l), length-append (decimal (get_or ns i 0)) (cond (ltb (i + 1) (length ns)) 32 10 ∷ line_text (drop (i + 1) ns)))

pub line_none : line_text [] ≡ []
unfolding line_text
line_none = refl

-- no number of 32 bits takes more than ten digits
pub line_bound : (ns : List ℕ) → ((i : ℕ) → i < length ns → get_or ns i 0 < 2 ^ 32) → length (line_text ns) ≤ 11 * length ns
unfolding line_text
line_bound [] few = omega arith
line_bound (v ∷ []) few = omega (arith, length-append (decimal v) (10 ∷ []), length-decimal-le 10 v (omega arith) (omega (arith, few 0 (omega arith))) (omega (arith, few 0 (omega arith))))
line_bound (v ∷ w ∷ vs) few =
    omega (arith, length-append (decimal v) (32 ∷ line_text (w ∷ vs)), length-decimal-le 10 v (omega arith) (omega (arith, few 0 (omega arith))) (omega (arith, few 0 (omega arith))), line_bound (w ∷ vs) (λ i l. few (suc i) (omega arith)))
