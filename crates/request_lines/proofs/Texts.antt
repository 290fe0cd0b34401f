-- Bytes are cut at their spaces in one way only, and numbers stand between spaces in one way only.
use Rattle.std.proofs.Common.{◌≡◌, ℕ, zero, suc, Bool, map, ◌-◌, ◌<◌, ◌≤◌, List, [], ◌∷◌, ◌++◌, length, get_or, take, drop, decimal, ◌≢◌, sym, refl, ap, ◌∙◌, subst, inl, inr, append_assoc, append-nil, length-drop, arith}
use Rattle.std.proofs.lemmas.List.{take-append-drop, take_all}
use Rattle.std.specs.List.{AllByRecursion}
use Rattle.std.specs.Str.Parse.{AllDigits}
use Rattle.std.proofs.lemmas.Str.Parse.{digit_from_value}
use Rattle.std.proofs.lemmas.Fmt.{decimal_is_IsNumeral, decimal_injective}
use Rattle.rules.specs.declared.edge.Edge.{Edge}
use Rattle.rules.specs.Edges.{edge}
use Rattle.request_lines.specs.Parts.{Spaceless, Spaced, Cut}
use Rattle.request_lines.specs.Lines.{Short, numbers_text, bit_digit, bits_text}

same_cut : (xs ys s t : List ℕ) → Spaceless xs → Spaceless ys → Spaced s → Spaced t → xs ++ s ≡ ys ++ t → (xs ≡ ys) × (s ≡ t)
same_cut [] [] s t p q a b e = (refl, e)
same_cut [] (y ∷ ys) s t p q (inl a) b e = let z : [] ≡ y ∷ (ys ++ t) = sym a ∙ e in (let u : ⊥ = cc in absurd u)
same_cut [] (y ∷ ys) s t p q (inr a) b e = let z : 32 ∷ a.0 ≡ y ∷ (ys ++ t) = sym a.1 ∙ e in let w : y ≡ 32 = cc in absurd (q.0 w)
same_cut (x ∷ xs) [] s t p q a (inl b) e = let z : x ∷ (xs ++ s) ≡ [] = e ∙ b in (let u : ⊥ = cc in absurd u)
same_cut (x ∷ xs) [] s t p q a (inr b) e = let z : x ∷ (xs ++ s) ≡ 32 ∷ b.0 = e ∙ b.1 in let w : x ≡ 32 = cc in absurd (p.0 w)
same_cut (x ∷ xs) (y ∷ ys) s t p q a b e =
    let z : x ∷ (xs ++ s) ≡ y ∷ (ys ++ t) = e in
    let h : x ≡ y = cc in
    let r = same_cut xs ys s t p.1 q.1 a b cc in
    (cc, r.1)

-- however bytes are cut, the parts are the same
pub one_cut : (bs xs ys s t : List ℕ) → Cut bs xs s → Cut bs ys t → (xs ≡ ys) × (s ≡ t)
one_cut bs xs ys s t c d = same_cut xs ys s t c.first d.first c.more d.more (sym c.whole ∙ d.whole)

digits_spaceless : (ds : List ℕ) → AllDigits 10 ds → Spaceless ds
digits_spaceless [] h = tt
digits_spaceless (c ∷ cs) h = let r = digit_from_value c h.0 in ((λ e. absurd (omega arith)), digits_spaceless cs h.1)

pub number_spaceless : (n : ℕ) → Short n → Spaceless (decimal n)
number_spaceless n l = digits_spaceless (decimal n) (decimal_is_IsNumeral n (omega arith)).0.1

pub numbers_spaced : (ns : List ℕ) → Spaced (numbers_text ns)
numbers_spaced [] = inl refl
numbers_spaced (n ∷ ns) = inr (decimal n ++ numbers_text ns, refl)

-- numbers whose text begins with that of others begin with those
pub numbers_begin : (ns vs left : List ℕ) → AllByRecursion Short ns → AllByRecursion Short vs → Spaced left → numbers_text ns ≡ numbers_text vs ++ left → (ms : List ℕ) × (ns ≡ vs ++ ms) × (numbers_text ms ≡ left) × AllByRecursion Short ms
numbers_begin ns [] left a b h e = (ns, refl, e, a)
numbers_begin [] (v ∷ vs) left a b h e = let z : [] ≡ 32 ∷ ((decimal v ++ numbers_text vs) ++ left) = e in (let u : ⊥ = cc in absurd u)
numbers_begin (n ∷ ns) (v ∷ vs) left a b h e =
    let z : 32 ∷ (decimal n ++ numbers_text ns) ≡ 32 ∷ ((decimal v ++ numbers_text vs) ++ left) = e in
    let w : decimal n ++ numbers_text ns ≡ (decimal v ++ numbers_text vs) ++ left = cc in
    let s = same_cut (decimal n) (decimal v) (numbers_text ns) (numbers_text vs ++ left) (number_spaceless n a.0) (number_spaceless v b.0) (numbers_spaced ns) (spaced_append (numbers_text vs) left (numbers_spaced vs) h) (w ∙ append_assoc (decimal v) (numbers_text vs) left) in
    let r = numbers_begin ns vs left a.1 b.1 h s.1 in
    let f : n ≡ v = decimal_injective n v (omega (arith, a.0)) (omega (arith, b.0)) s.0 in
    (r.0, cc, r.2, r.3)
  where
    spaced_append : (xs ys : List ℕ) → Spaced xs → Spaced ys → Spaced (xs ++ ys)
    spaced_append xs ys (inl p) q = let P : List ℕ → Type 0 = λ z. Spaced (z ++ ys) in subst P (sym p) q
    spaced_append xs ys (inr p) q = inr (p.0 ++ ys, ap (λ z. z ++ ys) p.1)

-- numbers have one text only
pub numbers_once : (ns vs : List ℕ) → AllByRecursion Short ns → AllByRecursion Short vs → numbers_text ns ≡ numbers_text vs → ns ≡ vs
numbers_once ns vs a b e =
    let r = numbers_begin ns vs [] a b (inl refl) (e ∙ sym (append-nil (numbers_text vs))) in
    r.1 ∙ ap (λ z. vs ++ z) (none r.0 r.2) ∙ append-nil vs
  where
    none : (ms : List ℕ) → numbers_text ms ≡ [] → ms ≡ []
    none [] h = refl
    none (m ∷ ms) h = let z : 32 ∷ (decimal m ++ numbers_text ms) ≡ [] = h in (let u : ⊥ = cc in absurd u)

no_space : (bs : List ℕ) (n : ℕ) → n ≤ length bs → ((k : ℕ) → k < n → get_or bs k 0 ≢ 32) → Spaceless (take n bs)
no_space [] n l h = let e : n ≡ 0 = omega arith in let P : ℕ → Type 0 = λ m. Spaceless (take m []) in subst P (sym e) tt
no_space (b ∷ bs) zero l h = tt
no_space (b ∷ bs) (suc n) l h = (h 0 (omega arith), no_space bs n (omega arith) (λ k m. h (suc k) (omega arith)))

rest_spaced : (bs : List ℕ) (n : ℕ) → (n < length bs → get_or bs n 0 ≡ 32) → Spaced (drop n bs)
rest_spaced [] zero h = inl refl
rest_spaced [] (suc n) h = inl refl
rest_spaced (b ∷ bs) zero h = let e = h (omega arith) in inr (bs, ap (λ z. z ∷ bs) e)
rest_spaced (b ∷ bs) (suc n) h = rest_spaced bs n (λ l. h (omega arith))

pub cut_at : (bs : List ℕ) (n : ℕ) → n ≤ length bs → ((k : ℕ) → k < n → get_or bs k 0 ≢ 32) → (n < length bs → get_or bs n 0 ≡ 32) → Cut bs (take n bs) (drop n bs)
cut_at bs n l before found = record { whole = sym (take-append-drop n bs); first = no_space bs n l before; more = rest_spaced bs n found }

numbers-append : (xs ys : List ℕ) → numbers_text (xs ++ ys) ≡ numbers_text xs ++ numbers_text ys
numbers-append [] ys = refl
numbers-append (x ∷ xs) ys = ap (λ z. 32 ∷ (decimal x ++ z)) (numbers-append xs ys) ∙ ap (λ z. 32 ∷ z) (sym (append_assoc (decimal x) (numbers_text xs) (numbers_text ys)))

spaced_first : (left : List ℕ) → Spaced left → 0 < length left → left ≡ 32 ∷ drop 1 left
spaced_first [] (inl e) l = absurd (omega arith)
spaced_first [] (inr p) l = absurd (omega arith)
spaced_first (b ∷ bs) (inl e) l = (let u : ⊥ = cc in absurd u)
spaced_first (b ∷ bs) (inr p) l = let e : b ∷ bs ≡ 32 ∷ p.0 = p.1 in let f : b ≡ 32 = cc in ap (λ z. z ∷ bs) f

-- what follows the first of some bytes, as the code has it
pub tail_cut : (left first more : List ℕ) → Cut (take (length left - 1) (drop 1 left)) first more → Cut (drop 1 left) first more
tail_cut left first more c =
    let e : take (length left - 1) (drop 1 left) ≡ drop 1 left = take_all (length left - 1) (drop 1 left) (omega (arith, length-drop 1 left)) in
    let P : List ℕ → Type 0 = λ z. Cut z first more in
    subst P e c

-- one number more is found
pub numbers_more : (bs vs left first more : List ℕ) (n : ℕ) → bs ≡ numbers_text vs ++ left → Spaced left → 0 < length left → Cut (drop 1 left) first more → first ≡ decimal n → bs ≡ numbers_text (vs ++ (n ∷ [])) ++ more
numbers_more bs vs left first more n e s l c f =
    let w : left ≡ 32 ∷ (decimal n ++ more) = spaced_first left s l ∙ ap (λ z. 32 ∷ z) (c.whole ∙ ap (λ z. z ++ more) f) in
    let one : numbers_text (n ∷ []) ++ more ≡ 32 ∷ (decimal n ++ more) = ap (λ z. 32 ∷ (z ++ more)) (append-nil (decimal n)) in
    e ∙ ap (λ z. numbers_text vs ++ z) (w ∙ sym one) ∙ sym (append_assoc (numbers_text vs) (numbers_text (n ∷ [])) more) ∙ ap (λ z. z ++ more) (sym (numbers-append vs (n ∷ [])))

-- no number is next, so that no numbers have this text
pub not_numbers : (bs vs left first more : List ℕ) → bs ≡ numbers_text vs ++ left → AllByRecursion Short vs → Spaced left → 0 < length left → Cut (drop 1 left) first more → ((n : ℕ) → Short n → first ≢ decimal n) → (ns : List ℕ) → AllByRecursion Short ns → bs ≢ numbers_text ns
not_numbers bs vs left first more e b s l c none ns a f =
    let r = numbers_begin ns vs left a b s (sym f ∙ e) in go r.0 r.2 r.3
  where
    go : (ms : List ℕ) → numbers_text ms ≡ left → AllByRecursion Short ms → ⊥
    go [] h q = absurd (omega (arith, ap length h))
    go (m ∷ ms) h q =
        let w : 32 ∷ (decimal m ++ numbers_text ms) ≡ 32 ∷ drop 1 left = h ∙ spaced_first left s l in
        let t : decimal m ++ numbers_text ms ≡ drop 1 left = cc in
        let d : Cut (drop 1 left) (decimal m) (numbers_text ms) = record { whole = sym t; first = number_spaceless m q.0; more = numbers_spaced ms } in
        none m q.0 (one_cut (drop 1 left) first (decimal m) more (numbers_text ms) c d).0

pub short_push : (vs : List ℕ) (n : ℕ) → AllByRecursion Short vs → Short n → AllByRecursion Short (vs ++ (n ∷ []))
short_push [] n a h = (h, tt)
short_push (v ∷ vs) n a h = (a.0, short_push vs n a.1 h)

-- a byte that is no bit's digit is in no text of bits
pub not_bits : (ds : List ℕ) (i : ℕ) → i < length ds → ((b : Bool) → get_or ds i 0 ≢ bit_digit b) → (bs : List Bool) → ds ≢ map bit_digit bs
not_bits [] i l wrong bs e = absurd (omega arith)
not_bits (d ∷ ds) i l wrong [] e = (let u : ⊥ = cc in absurd u)
not_bits (d ∷ ds) zero l wrong (b ∷ bs) e = let p : d ∷ ds ≡ bit_digit b ∷ map bit_digit bs = e in wrong b cc
not_bits (d ∷ ds) (suc i) l wrong (b ∷ bs) e = let p : d ∷ ds ≡ bit_digit b ∷ map bit_digit bs = e in not_bits ds i (omega arith) wrong bs cc

-- bits after a space
pub bits_after : (parts tail : List ℕ) (bs : List Bool) → Spaced parts → 1 < length parts → tail ≡ take (length parts - 1) (drop 1 parts) → tail ≡ map bit_digit bs → parts ≡ bits_text bs
bits_after parts tail bs s l t e = go bs e
  where
    rest : drop 1 parts ≡ tail
    rest = sym (t ∙ take_all (length parts - 1) (drop 1 parts) (omega (arith, length-drop 1 parts)))

    go : (cs : List Bool) → tail ≡ map bit_digit cs → parts ≡ bits_text cs
    go [] h = absurd (omega (arith, ap length rest, ap length h, length-drop 1 parts))
    go (c ∷ cs) h = spaced_first parts s (omega arith) ∙ ap (λ z. 32 ∷ z) (rest ∙ h)

pub no_bits_after : (parts tail : List ℕ) → Spaced parts → 1 < length parts → tail ≡ take (length parts - 1) (drop 1 parts) → ((bs : List Bool) → tail ≢ map bit_digit bs) → (bs : List Bool) → parts ≢ bits_text bs
no_bits_after parts tail s l t none [] h = omega (arith, ap length h)
no_bits_after parts tail s l t none (b ∷ bs) h =
    let rest : drop 1 parts ≡ tail = sym (t ∙ take_all (length parts - 1) (drop 1 parts) (omega (arith, length-drop 1 parts))) in
    let e : 32 ∷ drop 1 parts ≡ 32 ∷ map bit_digit (b ∷ bs) = sym (spaced_first parts s (omega arith)) ∙ h in
    let f : drop 1 parts ≡ map bit_digit (b ∷ bs) = cc in
    none (b ∷ bs) (sym rest ∙ f)

pub edges_numbers : (ns : List ℕ) → map (λ (e : Edge). e.0) (map edge ns) ≡ ns
edges_numbers [] = refl
edges_numbers (n ∷ ns) = ap (λ z. n ∷ z) (edges_numbers ns)
