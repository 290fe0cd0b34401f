-- Lines that grow part by part.
use Rattle.std.proofs.Common.{◌≡◌, ℕ, ◌+◌, ◌<◌, List, [], ◌∷◌, ◌++◌, length, get_or, take, decimal, sym, ap, ◌∙◌, append_assoc, append-nil}
use Rattle.std.proofs.lemmas.List.{take_more}
use Rattle.rules.specs.declared.edge.Edge.{Edge}
use Rattle.rules.specs.declared.pair.Pair.{Pair}
use Rattle.request_lines.specs.Lines.{edges_text}
use Rattle.answer_lines.specs.Answers.{pair_text, spaced_pairs}

-- a space, and then a part
pub pushed : (a b c start t u d : List ℕ) → b ≡ a ++ (32 ∷ []) → c ≡ b ++ d → a ≡ start ++ t → u ≡ t ++ (32 ∷ d) → c ≡ start ++ u
pushed a b c start t u d p q r e =
    q ∙ ap (λ z. z ++ d) p ∙ append_assoc a (32 ∷ []) d ∙ ap (λ z. z ++ (32 ∷ d)) r ∙ append_assoc start t (32 ∷ d) ∙ ap (λ z. start ++ z) (sym e)

edges_push : (es : List Edge) (e : Edge) → edges_text (es ++ (e ∷ [])) ≡ edges_text es ++ (32 ∷ decimal e.0)
edges_push [] e = ap (λ z. 32 ∷ z) (append-nil (decimal e.0))
edges_push (x ∷ es) e = ap (λ z. 32 ∷ (decimal x.0 ++ z)) (edges_push es e) ∙ ap (λ z. 32 ∷ z) (sym (append_assoc (decimal x.0) (edges_text es) (32 ∷ decimal e.0)))

pub edges_more : (es : List Edge) (i : ℕ) (d : Edge) → i < length es → edges_text (take (i + 1) es) ≡ edges_text (take i es) ++ (32 ∷ decimal (get_or es i d).0)
edges_more es i d l = ap edges_text (take_more es i d l) ∙ edges_push (take i es) (get_or es i d)

pairs_push : (ps : List Pair) (p : Pair) → spaced_pairs (ps ++ (p ∷ [])) ≡ spaced_pairs ps ++ (32 ∷ pair_text p)
pairs_push [] p = ap (λ z. 32 ∷ z) (append-nil (pair_text p))
pairs_push (x ∷ ps) p = ap (λ z. 32 ∷ (pair_text x ++ z)) (pairs_push ps p) ∙ ap (λ z. 32 ∷ z) (sym (append_assoc (pair_text x) (spaced_pairs ps) (32 ∷ pair_text p)))

pub pairs_more : (ps : List Pair) (i : ℕ) (p : Pair) → i < length ps → p ≡ get_or ps i p → spaced_pairs (take (i + 1) ps) ≡ spaced_pairs (take i ps) ++ (32 ∷ pair_text p)
pairs_more ps i p l h = ap spaced_pairs (take_more ps i p l ∙ ap (λ z. take i ps ++ (z ∷ [])) (sym h)) ∙ pairs_push (take i ps) p
