-- Steps one by one.
use Rattle.std.proofs.Common.{◌≡◌, ℕ, ◌+◌, ◌-◌, ◌<◌, ◌≤◌, min, Bool, true, false, cond, Ok, Err, List, [], ◌∷◌, ◌++◌, map, length, get_or, take, drop, Option, option_to_list, sym, refl, ap, ◌∙◌, subst, append_assoc, append-nil, add-one, drop-cons, arith}
use Rattle.std.proofs.lemmas.List.{drop_all, take_all}
use Rattle.history_model.specs.declared.request.Request.{Request}
use Rattle.history_model.specs.Histories.{Told, anded, applied, read}
use Rattle.request_lines.specs.declared.line.Opening.{Opening}
use Rattle.request_scripts.specs.declared.step.Step.{Step}
use Rattle.request_scripts.specs.declared.step.Step.TheVariants.{Misread}
use Rattle.answer_lines.specs.Answers.{answer_text, misread_text}
use Rattle.request_scripts.specs.Sizes.{size_after, is_full, is_full_file}
use Rattle.request_scripts.specs.Scripts.{script_text}
use Rattle.request_scripts.specs.Steps.{Requests, Adds, places_for, Asks}

pub drop_at : {A : Type 0} (xs : List A) (i : ℕ) (x : A) → i < length xs → x ≡ get_or xs i x → drop i xs ≡ x ∷ drop (i + 1) xs
drop_at xs i x l h = drop-cons xs i x l ∙ ap (λ n. get_or xs i x ∷ drop n xs) (sym (add-one i)) ∙ ap (λ z. z ∷ drop (i + 1) xs) (sym h)

-- one step more
pub asks_more : {W : Type 0} (o : Opening) (steps : List Step) (i most most' places n : ℕ) (s : Step) (q : Option (Request W)) (old new : List (Request W))
    → ((rs : List (Request W)) → Asks o most (drop i steps) rs → Asks o 0 steps (old ++ rs)) → i < length steps → s ≡ get_or steps i s → places ≡ places_for o most → Requests s places q → Adds s n
    → most' ≡ min (most + n) 1000000 → new ≡ old ++ option_to_list q → (rs : List (Request W)) → Asks o most' (drop (i + 1) steps) rs → Asks o 0 steps (new ++ rs)
asks_more {W} o steps i most most' places n s q old new decides l at p r a m e rs later =
    let P : ℕ → Type 0 = λ z. Requests s z q in
    let M : ℕ → Type 0 = λ z. Asks o z (drop (i + 1) steps) rs in
    let D : List Step → Type 0 = λ z. Asks o most z (option_to_list q ++ rs) in
    let N : List (Request W) → Type 0 = λ z. Asks o 0 steps z in
    let here : Asks o most (s ∷ drop (i + 1) steps) (option_to_list q ++ rs) = (q, rs, n, refl, subst P p r, a, subst M m later) in
    subst N (sym (ap (λ z. z ++ rs) e ∙ append_assoc old (option_to_list q) rs)) (decides (option_to_list q ++ rs) (subst D (sym (drop_at steps i s l at)) here))

-- all steps are done
pub asks_all : {W : Type 0} (o : Opening) (steps : List Step) (i most : ℕ) (made : List (Request W)) → ((rs : List (Request W)) → Asks o most (drop i steps) rs → Asks o 0 steps (made ++ rs)) → length steps ≤ i → Asks o 0 steps made
asks_all {W} o steps i most made decides l =
    let D : List Step → Type 0 = λ z. Asks {W = W} o most z [] in
    let N : List (Request W) → Type 0 = λ z. Asks o 0 steps z in
    subst N (append-nil made) (decides [] (subst D (sym (drop_all i steps l)) refl))

either_le : (b : Bool) (n l : ℕ) → n ≤ l → cond b l n ≤ l
either_le true n l h = omega arith
either_le false n l h = h

-- no graph has more nodes than its limit
pub size_within : {W : Type 0} (limit n : ℕ) (a : Told W) → n ≤ limit → size_after limit n a ≤ limit
size_within limit n (anded (Ok a)) h = omega arith
size_within limit n (anded (Err c)) h = either_le (is_full c) n limit h
size_within limit n (applied (Ok a)) h = omega arith
size_within limit n (applied (Err c)) h = either_le (is_full c) n limit h
size_within limit n (read (Ok k) map outputs) h = omega arith
size_within limit n (read (Err f) map outputs) h = either_le (is_full_file f) n limit h
size_within limit n a h = h

-- the text of one step more
pub text_misread : {W : Type 0} (inputs limit n k i : ℕ) (steps : List Step) (s : Step) (answers : List (Told W)) → i < length steps → s ≡ get_or steps i s → s ≡ Misread k
    → script_text inputs limit n (drop i steps) answers ≡ misread_text k ++ script_text inputs limit n (drop (i + 1) steps) answers
text_misread inputs limit n k i steps s answers l at e = ap (λ z. script_text inputs limit n z answers) (drop_at steps i s l at ∙ ap (λ z. z ∷ drop (i + 1) steps) e)

pub text_answered : {W : Type 0} (inputs limit n i : ℕ) (steps : List Step) (s : Step) (a : Told W) (answers : List (Told W)) → i < length steps → s ≡ get_or steps i s → ((k : ℕ) → s ≡ Misread k → ⊥)
    → script_text inputs limit n (drop i steps) (a ∷ answers) ≡ answer_text (inputs + 1 + n) a ++ script_text inputs limit (size_after limit n a) (drop (i + 1) steps) answers
text_answered {W} inputs limit n i steps s a answers l at no_misread = ap (λ z. script_text inputs limit n z (a ∷ answers)) (drop_at steps i s l at) ∙ first s no_misread
  where
    first : (s : Step) → ((k : ℕ) → s ≡ Misread k → ⊥) → script_text inputs limit n (s ∷ drop (i + 1) steps) (a ∷ answers) ≡ answer_text (inputs + 1 + n) a ++ script_text inputs limit (size_after limit n a) (drop (i + 1) steps) answers
    first (Misread k) h = absurd (h k refl)
    first s h = refl

pub text_unanswered : {W : Type 0} (inputs limit n i : ℕ) (steps : List Step) (s : Step) (answers : List (Told W)) → i < length steps → s ≡ get_or steps i s → ((k : ℕ) → s ≡ Misread k → ⊥) → answers ≡ []
    → script_text inputs limit n (drop i steps) answers ≡ script_text inputs limit n (drop (i + 1) steps) answers
text_unanswered {W} inputs limit n i steps s answers l at no_misread e =
    ap (script_text inputs limit n (drop i steps)) e ∙ ap (λ z. script_text {W = W} inputs limit n z []) (drop_at steps i s l at) ∙ first s no_misread ∙ ap (script_text inputs limit n (drop (i + 1) steps)) (sym e)
  where
    first : (s : Step) → ((k : ℕ) → s ≡ Misread k → ⊥) → script_text {W = W} inputs limit n (s ∷ drop (i + 1) steps) [] ≡ script_text {W = W} inputs limit n (drop (i + 1) steps) []
    first (Misread k) h = absurd (h k refl)
    first s h = refl

-- a part of the text that is added
pub grown : (old new part rest rest' whole : List ℕ) → old ++ rest ≡ whole → new ≡ old ++ part → rest ≡ part ++ rest' → new ++ rest' ≡ whole
grown old new part rest rest' whole w e f = ap (λ z. z ++ rest') e ∙ append_assoc old part rest' ∙ ap (λ z. old ++ z) (sym f) ∙ w

-- what the loop over the steps keeps
abbrev pub Kept : {W : Type 0} → ℕ → ℕ → List Step → ℕ → List ℕ → ℕ → List (Told W) → List ℕ → Type 0
Kept inputs limit steps i text n left whole = (n ≤ limit) × (text ++ script_text inputs limit n (drop i steps) left ≡ whole)

pub kept_misread : {W : Type 0} (inputs limit n k i : ℕ) (steps : List Step) (s : Step) (left : List (Told W)) (old new line whole : List ℕ) → i < length steps → s ≡ get_or steps i s → s ≡ Misread k → line ≡ misread_text k → new ≡ old ++ line
    → Kept inputs limit steps i old n left whole → Kept inputs limit steps (i + 1) new n left whole
kept_misread inputs limit n k i steps s left old new line whole l at e f g h =
    (h.0, grown old new line (script_text inputs limit n (drop i steps) left) (script_text inputs limit n (drop (i + 1) steps) left) whole h.1 g (text_misread inputs limit n k i steps s left l at e ∙ ap (λ z. z ++ script_text inputs limit n (drop (i + 1) steps) left) (sym f)))

pub kept_unanswered : {W A : Type 0} (told_of : A → Told W) (inputs limit n i : ℕ) (steps : List Step) (s : Step) (left : List A) (old whole : List ℕ) → i < length steps → s ≡ get_or steps i s → ((k : ℕ) → s ≡ Misread k → ⊥) → length left < 1
    → Kept inputs limit steps i old n (map told_of left) whole → Kept inputs limit steps (i + 1) old n (map told_of left) whole
kept_unanswered told_of inputs limit n i steps s left old whole l at no_misread few h =
    (h.0, ap (λ z. old ++ z) (sym (text_unanswered inputs limit n i steps s (map told_of left) l at no_misread (none told_of left few))) ∙ h.1)
  where
    none : {A B : Type 0} (f : A → B) (xs : List A) → length xs < 1 → map f xs ≡ []
    none f [] m = refl
    none f (x ∷ xs) m = absurd (omega arith)

first_of : {A : Type 0} (xs ys : List A) (x : A) → 1 ≤ length xs → x ≡ get_or xs 0 x → ys ≡ take (length xs - 1) (drop 1 xs) → xs ≡ x ∷ ys
first_of [] ys x l at e = absurd (omega arith)
first_of (z ∷ zs) ys x l at e = ap (λ w. w ∷ zs) (sym at) ∙ ap (λ w. x ∷ w) (sym (e ∙ take_all (length (z ∷ zs) - 1) zs (omega arith)))

pub kept_answered : {W A : Type 0} (told_of : A → Told W) (inputs limit n n' i : ℕ) (steps : List Step) (s : Step) (left left' : List A) (a : A) (old new line whole : List ℕ) → i < length steps → s ≡ get_or steps i s → ((k : ℕ) → s ≡ Misread k → ⊥)
    → 1 ≤ length left → a ≡ get_or left 0 a → left' ≡ take (length left - 1) (drop 1 left) → line ≡ answer_text (inputs + 1 + n) (told_of a) → new ≡ old ++ line → n' ≡ size_after limit n (told_of a)
    → Kept inputs limit steps i old n (map told_of left) whole → Kept inputs limit steps (i + 1) new n' (map told_of left') whole
kept_answered {W} {A} told_of inputs limit n n' i steps s left left' a old new line whole l at no_misread some first rest f g m h =
    let P : ℕ → Type 0 = λ z. Kept inputs limit steps (i + 1) new z (map told_of left') whole in
    let e = ap (λ z. script_text inputs limit n (drop i steps) (map told_of z)) (first_of left left' a some first rest) ∙ text_answered inputs limit n i steps s (told_of a) (map told_of left') l at no_misread
    ∙ ap (λ z. z ++ script_text inputs limit (size_after limit n (told_of a)) (drop (i + 1) steps) (map told_of left')) (sym f) in
    subst P (sym m) (size_within limit n (told_of a) h.0, grown old new line (script_text inputs limit n (drop i steps) (map told_of left)) (script_text inputs limit (size_after limit n (told_of a)) (drop (i + 1) steps) (map told_of left')) whole h.1 g e)
