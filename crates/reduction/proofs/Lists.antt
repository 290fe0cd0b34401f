-- Lists and options that are equal, by what their comparisons say.
use Rattle.std.proofs.Common.{◌≡◌, ◌==◌, Bool, ◌&&◌, List, length, take, Decides, sym, ap}
use Rattle.std.proofs.lemmas.Bool.{and_from, and_parts, eqb-true, eq-eqb}
use Rattle.std.proofs.lemmas.Slice.Eq.{slice_eq-Decides}
use Rattle.std.specs.List.{starts_with}
use Rattle.rules.specs.declared.pair.Pair.{Pair}
use Rattle.rules.specs.Edges.{edge}
use Rattle.rules.proofs.Edged.{pair_path}

-- what `starts_with` says
pub begins : {A : Type 0} {E : A → A → Bool} → ((a b : A) → Decides (E a b) (a ≡ b)) → (xs ys : List A) (r : Bool) → r ≡ starts_with E xs ys → Decides r (take (length ys) xs ≡ ys)
begins d xs ys r e = let h = slice_eq-Decides d ys (take (length ys) xs) r e in ((λ t. sym (h.0 t)), λ t. h.1 (sym t))

-- `==` of pairs tells them apart
pub pairs_decided : (p q : Pair) → Decides ((p.larger.0 == q.larger.0) && (p.smaller.0 == q.smaller.0)) (p ≡ q)
pairs_decided p q = (
  (λ e. let h = and_parts (p.larger.0 == q.larger.0) (p.smaller.0 == q.smaller.0) e in pair_path p q (ap edge (eqb-true _ _ h.0)) (ap edge (eqb-true _ _ h.1))),
  (λ e. and_from _ _ (eq-eqb p.larger.0 q.larger.0 (ap (λ (z : Pair). z.larger.0) e)) (eq-eqb p.smaller.0 q.smaller.0 (ap (λ (z : Pair). z.smaller.0) e))),
)
