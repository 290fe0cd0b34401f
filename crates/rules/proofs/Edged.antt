-- Laws of edges and pairs.
use Rattle.std.proofs.Common.{◌≡◌, ℕ, ◌<◌, ◌≤◌, min, max, true, not, ap, subst₂, ⊎_elim, arith}
use mathlib.Core.HLevel.{is_prop→PathP}
use native.Mathlib.Bridge.{le_prop}
use Rattle.std.proofs.lemmas.Bool.{eqb-true, cases_lt}
use Rattle.std.proofs.lemmas.Bool.Decides.{nat_tests}
use Rattle.rules.specs.declared.edge.Edge.{Edge}
use Rattle.rules.specs.declared.pair.Pair.{Pair}
use Rattle.rules.specs.Edges.{edge, node, same, complemented, complement}
use Rattle.rules.specs.Pairs.{pair_of}

pub same_is : (a b : Edge) → same a b ≡ true → a ≡ b
same_is a b t = ap edge (eqb-true a.0 b.0 t)

pub node-complement : (e : Edge) → node (complement e) ≡ node e
node-complement e = grind (arith, nat_tests)

pub complemented-complement : (e : Edge) → complemented (complement e) ≡ not (complemented e)
complemented-complement e = grind (arith, nat_tests)

pub complement-complement : (e : Edge) → complement (complement e) ≡ e
complement-complement e = ap edge (twice e.0)
  where
    twice : (n : ℕ) → (complement (complement (edge n))).0 ≡ n
    twice n = grind (arith, nat_tests)

-- what holds of two edges in either order holds of their pair
pub of_pair : (x y : Edge) (P : Edge → Edge → Type 0) → P x y → P y x → P (pair_of x y).larger (pair_of x y).smaller
of_pair x y P h k = ⊎_elim
    (λ l. subst₂ P (ap edge (largest l)) (ap edge (least l)) h)
    (λ g. subst₂ P (ap edge (largest' g)) (ap edge (least' g)) k) (cases_lt y.0 x.0)
  where
    largest : y.0 < x.0 → x.0 ≡ max x.0 y.0
    largest l = omega arith

    least : y.0 < x.0 → y.0 ≡ min x.0 y.0
    least l = omega arith

    largest' : x.0 ≤ y.0 → y.0 ≡ max x.0 y.0
    largest' l = omega arith

    least' : x.0 ≤ y.0 → x.0 ≡ min x.0 y.0
    least' l = omega arith

-- two pairs with the same edges are the same: that they are sorted is no more than a fact
pub pair_path : (a b : Pair) → a.larger ≡ b.larger → a.smaller ≡ b.smaller → a ≡ b
pair_path a b p q = λ i. record { larger = p i; smaller = q i; sorted = is_prop→PathP (λ j. (q j).0 ≤ (p j).0) (λ j. le_prop) a.sorted b.sorted i }

pub pair_of_sym : (x y : Edge) → pair_of x y ≡ pair_of y x
pair_of_sym x y = pair_path (pair_of x y) (pair_of y x) (ap edge (omega arith)) (ap edge (omega arith))

-- a pair is the pair of its own edges
pub pair_of_own : (p : Pair) → pair_of p.larger p.smaller ≡ p
pair_of_own p = pair_path (pair_of p.larger p.smaller) p (ap edge larger) (ap edge smaller)
  where
    larger : max p.larger.0 p.smaller.0 ≡ p.larger.0
    larger = omega (arith, p.sorted)

    smaller : min p.larger.0 p.smaller.0 ≡ p.smaller.0
    smaller = omega (arith, p.sorted)

pub complement_differs : (e : Edge) → complement e ≡ e → ⊥
complement_differs e h = differs e.0 (ap (λ (x : Edge). x.0) h)
  where
    differs : (n : ℕ) → (complement (edge n)).0 ≡ n → ⊥
    differs n h = grind (arith, nat_tests)
