-- What an edge means after one request more.
use Rattle.std.proofs.Common.{◌≡◌, ℕ, suc, ◌+◌, ◌*◌, ◌<◌, Bool, true, false, ◌&&◌, Ok, sym, refl, ap, ◌∙◌, ap₂, subst, arith}
use Rattle.std.proofs.lemmas.List.FromFn.{length-map-range_with_len, get_or-map-range_with_len}
use Rattle.values.specs.Algebra.{xor}
use Rattle.values.specs.Bit.{bit_algebra}
use Rattle.rules.specs.declared.edge.Edge.{Edge}
use Rattle.rules.specs.declared.window.Window.{Window}
use Rattle.rules.specs.declared.window.Reply.{Reply}
use Rattle.rules.specs.Edges.{edge, false_edge, node}
use Rattle.rules.specs.Lawful.{Lawful}
use Rattle.graph_model.specs.declared.operation.Operation.TheVariants.{Xor}
use Rattle.graph_model.specs.Graphs.{State, Inside, at, node_values, roots, meaning}
use Rattle.graph_model.specs.Operations.{apply_of}
use Rattle.graph_model.specs.Settling.{Ands}
use Rattle.graph_model.specs.WellFormed.{Well, Extends}
use Rattle.graph_model.proofs.Meanings.{means_plain, grown_keeps}
use Rattle.graph_model.proofs.Operations.{apply_extends, apply_inside, apply_means}
use Rattle.graph_model.proofs.Requests.{extends_inside, zeroth, meaning_extends, ands_extends, ands_well, ands_known, ands_means, known_inside}
use Rattle.workloads.specs.Questions.{Means, parity, all_true}

-- an input's edge has the input's value
pub input : (s : State) (j : ℕ) → j < s.inputs → Means s (edge (2 * (j + 1))) (λ ρ. ρ (j + 1))
unfolding at
input s j l = (
  omega arith,
  λ ρ.
      let vs = node_values bit_algebra ρ s in
      let e : node (edge (2 * (j + 1))) ≡ suc j = omega arith in
      means_plain bit_algebra (at bit_algebra vs) (edge (2 * (j + 1))) (omega arith)
      ∙ ap (at bit_algebra vs) e
      ∙ grown_keeps bit_algebra (roots bit_algebra ρ s.inputs) s.pairs (suc j) (omega (arith, length-map-range_with_len ρ 1 s.inputs))
      ∙ get_or-map-range_with_len ρ 1 s.inputs j (j + 1) false l (omega arith),
)

-- the constant's edge is false
pub constant : (s : State) → Means s false_edge (λ ρ. false)
constant s = (
  omega arith,
  λ ρ.
      let vs = node_values bit_algebra ρ s in
      let e : node false_edge ≡ 0 = omega arith in
      means_plain bit_algebra (at bit_algebra vs) false_edge (omega arith) ∙ ap (at bit_algebra vs) e ∙ zeroth bit_algebra ρ s,
)

-- what an edge means stays
pub later : (s t : State) (e : Edge) (f : (ℕ → Bool) → Bool) → Extends s t → Means s e f → Means t e f
later s t e f x m = (extends_inside s t e x m.0, λ ρ. meaning_extends bit_algebra ρ s t e x m.0 ∙ m.1 ρ)

-- an XOR means the XOR of its operands
pub xor_means : (b : Window → Reply) → Lawful b → (s t : State) → Well b s → (x y e : Edge) (n : ℕ) (f g : (ℕ → Bool) → Bool) → Means s x f → Means s y g → Ok (e, n) ≡ (apply_of b s Xor x y).answer → t ≡ (apply_of b s Xor x y).after
    → Extends s t × Means t e (λ ρ. xor bit_algebra (f ρ) (g ρ))
xor_means b lawful s t well x y e n f g l r a u =
    let P : State → Type 0 = λ z. Extends s z × Means z e (λ ρ. xor bit_algebra (f ρ) (g ρ)) in
    subst P (sym u) (apply_extends b lawful s well Xor x y, (apply_inside b lawful s well Xor x y e n (sym a), λ ρ. apply_means b lawful s well Xor x y e n (sym a) bit_algebra ρ ∙ ap₂ (xor bit_algebra) (l.1 ρ) (r.1 ρ)))

-- an AND means the AND of its operands
pub and_means : (b : Window → Reply) → Lawful b → (s t : State) → Well b s → (x y e : Edge) (n : Bool) (f g : (ℕ → Bool) → Bool) → Means s x f → Means s y g → Ands b s x y (Ok (e, n)) t
    → Extends s t × Means t e (λ ρ. f ρ && g ρ)
and_means b lawful s t well x y e n f g l r a =
    (ands_extends a, (known_inside lawful (ands_well lawful well a) (ands_known lawful well a), λ ρ. ands_means bit_algebra ρ lawful well a ∙ ap₂ ◌&&◌ (l.1 ρ) (r.1 ρ)))

-- an edge that means what another function says
pub means_as : (s : State) (e : Edge) (f g : (ℕ → Bool) → Bool) → ((ρ : ℕ → Bool) → f ρ ≡ g ρ) → Means s e f → Means s e g
means_as s e f g h m = (m.0, λ ρ. m.1 ρ ∙ h ρ)

pub xor_false : (a : Bool) → xor bit_algebra false a ≡ a
xor_false true = refl
xor_false false = refl

pub xor_assoc : (a b c : Bool) → xor bit_algebra (xor bit_algebra a b) c ≡ xor bit_algebra a (xor bit_algebra b c)
xor_assoc true true true = refl
xor_assoc true true false = refl
xor_assoc true false true = refl
xor_assoc true false false = refl
xor_assoc false true true = refl
xor_assoc false true false = refl
xor_assoc false false true = refl
xor_assoc false false false = refl

-- the first input alone
pub first_parity : (ρ : ℕ → Bool) → ρ 1 ≡ parity ρ 1
unfolding parity
first_parity ρ = sym (xor_false (ρ 1))

pub first_all : (ρ : ℕ → Bool) → ρ 1 ≡ all_true ρ 1
unfolding all_true
first_all ρ = refl

-- one input more
pub next_parity : (ρ : ℕ → Bool) (k : ℕ) → xor bit_algebra (parity ρ k) (ρ (k + 1)) ≡ parity ρ (k + 1)
unfolding parity
next_parity ρ k = let e : k + 1 ≡ suc k = omega arith in ap (λ z. xor bit_algebra (parity ρ k) (ρ z)) e ∙ ap (parity ρ) (sym e)

pub next_all : (ρ : ℕ → Bool) (k : ℕ) → (all_true ρ k && ρ (k + 1)) ≡ all_true ρ (k + 1)
unfolding all_true
next_all ρ k = let e : k + 1 ≡ suc k = omega arith in ap (λ z. all_true ρ k && ρ z) e ∙ ap (all_true ρ) (sym e)

-- the last inputs' XOR, where that of the first k completes it
abbrev pub Completes : State → Edge → ℕ → Type 0
Completes s e k = Inside s e × ((ρ : ℕ → Bool) → xor bit_algebra (parity ρ k) (meaning bit_algebra ρ s e) ≡ parity ρ 16)

pub last_completes : (s : State) (e : Edge) → Means s e (λ ρ. ρ 16) → Completes s e 15
unfolding parity
last_completes s e m = (m.0, λ ρ. ap (xor bit_algebra (parity ρ 15)) (m.1 ρ) ∙ next_parity ρ 15)

pub all_complete : (s : State) (e : Edge) → Completes s e 0 → Means s e (λ ρ. parity ρ 16)
unfolding parity
all_complete s e c = (c.0, λ ρ. sym (xor_false (meaning bit_algebra ρ s e)) ∙ c.1 ρ)

pub one_completes : (s t : State) (e u : Edge) (k : ℕ) → Completes s e (k + 1) → Means t u (λ ρ. xor bit_algebra (ρ (k + 1)) (meaning bit_algebra ρ s e)) → Completes t u k
one_completes s t e u k c m = (
  m.0,
  λ ρ.
      ap (xor bit_algebra (parity ρ k)) (m.1 ρ) ∙ sym (xor_assoc (parity ρ k) (ρ (k + 1)) (meaning bit_algebra ρ s e)) ∙ ap (λ z. xor bit_algebra z (meaning bit_algebra ρ s e)) (next_parity ρ k) ∙ c.1 ρ,
)

pub extends_as : (s t u : State) → t ≡ u → Extends s u → Extends s t
extends_as s t u e x = let P : State → Type 0 = Extends s in subst P (sym e) x
