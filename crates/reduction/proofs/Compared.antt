-- Two iterators that show what is left of their lists are equal where the lists are.
use Rattle.std.proofs.Common.{◌≡◌, Bool, true, false, List, [], ◌∷◌, ◌++◌, Option, Some, None, Decides, IfSome, MatchOption, sym, ap, ◌∙◌}
use Rattle.std.proofs.lemmas.Bool.{false≢true}
use Rattle.std.proofs.lemmas.List.{append_cancel_left}
use Rattle.std.proofs.lemmas.List.Elements.{same_from_all_zip}
use Rattle.std.specs.Iterator.{Yields, YieldsThen, YieldsFirst}
use Rattle.std.specs.List.{AllZip}

module _ {S A : Type 0} (left : S → List A) where
  shown : (s : S) (xs : List A) (t : S) → Yields (YieldsFirst left) s xs t → left s ≡ xs ++ left t
  shown s [] t e = ap left e
  shown s (x ∷ xs) t y = y.1 ∙ ap (λ z. x ∷ z) (shown y.0 xs t y.2)

  -- what the items and the answer after them show of the list
  abbrev pub Rest : Option A → S → List A → Type 0
  Rest None u zs = zs ≡ []
  Rest (Some x) u zs = zs ≡ x ∷ left u

  rest : (o : Option A) (t u : S) → YieldsFirst left t o u → Rest o u (left t)
  rest None t u e = e.0
  rest (Some x) t u e = e

  module _ (E : A → A → Bool) (decides : (a b : A) → Decides (E a b) (a ≡ b)) where
    abbrev pub Last : Option A → Option A → Bool → Type 0
    Last o p r = MatchOption o (MatchOption p (r ≡ true) (λ _. r ≡ false)) (λ x. (r ≡ false) × IfSome p (λ y. E x y ≡ false))

    ended : (o p : Option A) (u v : S) (zs ws : List A) (r : Bool) → Rest o u zs → Rest p v ws → Last o p r → Decides r (zs ≡ ws)
    ended None None u v zs ws r d e l = ((λ _. d ∙ sym e), λ _. l)
    ended None (Some y) u v zs ws r d e l = ((λ t. absurd (false≢true (sym l ∙ t))), λ z. absurd (let n : [] ≡ y ∷ left v = sym d ∙ z ∙ e in cc))
    ended (Some x) None u v zs ws r d e l = ((λ t. absurd (false≢true (sym l.0 ∙ t))), λ z. absurd (let n : [] ≡ x ∷ left u = sym e ∙ sym z ∙ d in cc))
    ended (Some x) (Some y) u v zs ws r d e l = ((λ t. absurd (false≢true (sym l.0 ∙ t))), λ z. absurd (let n : x ∷ left u ≡ y ∷ left v = sym d ∙ z ∙ e in let h : x ≡ y = cc in false≢true (sym l.1 ∙ (decides x y).1 h)))

    pub eq_decides : (s t : S) (xs ys : List A) (o p : Option A) (u v : S) (r : Bool) → YieldsThen (YieldsFirst left) s xs o u → YieldsThen (YieldsFirst left) t ys p v → AllZip (λ x y. E x y ≡ true) xs ys → Last o p r → Decides r (left s ≡ left t)
    eq_decides s t xs ys o p u v r a b z l =
        let same : ys ≡ xs = same_from_all_zip (λ x y. E x y ≡ true) xs ys z (λ x y e. sym ((decides x y).0 e)) in
        let ours = shown s xs a.0 a.1 in
        let theirs = shown t ys b.0 b.1 ∙ ap (λ w. w ++ left b.0) same in
        let d = ended o p u v (left a.0) (left b.0) r (rest o a.0 u a.2) (rest p b.0 v b.2) l in
        ((λ e. ours ∙ ap (λ w. xs ++ w) (d.0 e) ∙ sym theirs), λ e. d.1 (append_cancel_left xs _ _ (sym ours ∙ e ∙ theirs)))
