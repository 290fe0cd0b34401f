-- A checked file, from its first request to its last.
use Rattle.std.proofs.Common.{◌≡◌, ℕ, zero, suc, ◌+◌, ◌*◌, ◌/◌, ◌<◌, ◌≤◌, List, [], ◌∷◌, ◌++◌, length, get_or, drop, set, sym, refl, ap, ◌∙◌, subst, add-zero, arith, get_or-set_same}
use Rattle.values.specs.Algebra.{BooleanAlgebra}
use Rattle.rules.specs.declared.edge.Edge.{Edge}
use Rattle.rules.specs.declared.window.Window.{Window}
use Rattle.rules.specs.declared.window.Reply.{Reply}
use Rattle.rules.specs.Edges.{edge, false_edge}
use Rattle.rules.specs.Lawful.{Lawful}
use Rattle.graph_model.specs.Graphs.{State, Inside, meaning}
use Rattle.graph_model.specs.WellFormed.{Well}
use Rattle.aiger_lines.specs.declared.fields.Header.{Header}
use Rattle.aiger_check.specs.Circuits.{Item, input, output, gate, Defines, Defined, Fresh, Begins}
use Rattle.aiger_check.specs.Checks.{note, notes}
use Rattle.aiger_check.proofs.Noting.{note_else, note-length}
use Rattle.aiger_check.specs.Calls.{opened}
use Rattle.aiger_check.proofs.Keeping.{starts}
use Rattle.aiger_check.proofs.Ending.{length-opened}
use Rattle.aiger_read.specs.Requests.{run}
use Rattle.aiger_read.specs.Reads.{requests}
use Rattle.aiger_check.proofs.Goods.{Goods, goods_from}
use Rattle.aiger_read.proofs.Run.{Inputs, Ended, runs, constant_means, defined_old, defined_last}

no_redefine : (D : ℕ → Type 0) (i : Item) (x : ℕ) → Fresh D i → D x → Defines i x → ⊥
no_redefine D (input v) x f d e = f (subst D (sym e) d)
no_redefine D (output v) x f d e = e
no_redefine D (gate a b c) x f d e = f (subst D (sym e) d)

-- what is defined before some items is not touched by them
pub unspoilt : (h : Header) (k n : ℕ) (rest before : List Item) (m : List Edge) (x : ℕ) → Goods h n before rest → Defined before x → get_or (notes k rest m) x false_edge ≡ get_or m x false_edge
unfolding notes
unspoilt h k n [] before m x g d = refl
unspoilt h k n (i ∷ rest) before m x g d =
    unspoilt h (k + 1) (n + 1) rest (before ++ (i ∷ [])) (note k i m) x g.2 (defined_old before i x d)
    ∙ note_else h.max k i m x (no_redefine (Defined before) i x g.0.fresh d)

pub inputs_from : (h : Header) (n : ℕ) (rest before : List Item) (m : List Edge) → h.max < length m → Goods h n before rest → Inputs n rest (notes n rest m)
unfolding notes
inputs_from h n [] before m l g = tt
inputs_from h n (input v ∷ rest) before m l g = (
  unspoilt h (n + 1) (n + 1) rest (before ++ (input v ∷ [])) (set m (v / 2) (edge (2 * (n + 1)))) (v / 2) g.2 (defined_last before (input v) (v / 2) refl) ∙ get_or-set_same m (v / 2) (edge (2 * (n + 1))) false_edge (omega (arith, g.0.literals.top)),
  inputs_from h (n + 1) rest (before ++ (input v ∷ [])) (set m (v / 2) (edge (2 * (n + 1)))) (omega (arith, note-length h.max n (input v) m)) g.2,
)
inputs_from h n (output v ∷ rest) before m l g = inputs_from h (n + 1) rest (before ++ (output v ∷ [])) m l g.2
inputs_from h n (gate a b c ∷ rest) before m l g = inputs_from h (n + 1) rest (before ++ (gate a b c ∷ [])) (set m (a / 2) false_edge) (omega (arith, note-length h.max n (gate a b c) m)) g.2

pub notes-length : (h : Header) (k : ℕ) (is : List Item) (m : List Edge) → length (notes k is m) ≡ length m
unfolding notes
notes-length h k [] m = refl
notes-length h k (i ∷ is) m = notes-length h (k + 1) is (note k i m) ∙ note-length h.max k i m

-- no request is made before the gates
pub skip : (b : Window → Reply) (h : Header) (t n : ℕ) (rest before : List Item) (s : State) (m : List Edge) (a : ℕ) → t + n ≤ h.inputs + h.outputs → t ≤ length rest → Goods h n before rest → run b n rest s m a ≡ run b (n + t) (drop t rest) s m a
unfolding run
skip b h zero n rest before s m a l few g = ap (λ k. run b k rest s m a) (sym (add-zero n))
skip b h (suc t) n [] before s m a l few g = absurd (omega arith)
skip b h (suc t) n (input v ∷ rest) before s m a l few g = skip b h t (n + 1) rest (before ++ (input v ∷ [])) s m a (omega arith) (omega arith) g.2 ∙ (let e : n + 1 + t ≡ n + suc t = omega arith in ap (λ k. run b k (drop t rest) s m a) e)
skip b h (suc t) n (output v ∷ rest) before s m a l few g = skip b h t (n + 1) rest (before ++ (output v ∷ [])) s m a (omega arith) (omega arith) g.2 ∙ (let e : n + 1 + t ≡ n + suc t = omega arith in ap (λ k. run b k (drop t rest) s m a) e)
skip b h (suc t) n (gate x y z ∷ rest) before s m a l few g = absurd (omega (arith, g.1))

module _ {V : Type 0} (k : BooleanAlgebra V) (b : Window → Reply) (lawful : Lawful b) (h : Header) (ls : List (List ℕ)) (is : List Item) (begins : Begins h ls is) (many : h.inputs + h.outputs ≤ length is) (s : State) (well : Well b s) (count : h.inputs ≡ s.inputs) (m₀ : List Edge) (room : h.max < length m₀) where
  abbrev m : List Edge
  m = notes 0 is (opened h.max m₀)

  goods : Goods h 0 [] is
  goods = goods_from h ls is begins is [] 0 refl refl

  wide : h.max < length (opened h.max m₀)
  wide = omega (arith, length-opened h.max m₀ room)

  whole_ends : Ended k b lawful h is s 0 (run b 0 is s m 0)
  whole_ends =
      runs k b lawful h is is [] 0 s m 0 refl refl goods (inputs_from h 0 is [] (opened h.max m₀) wide goods) count (omega (arith, notes-length h 0 is (opened h.max m₀), wide)) well
      (λ x d.
      let zero_place : get_or m x false_edge ≡ false_edge = ap (λ z. get_or m z false_edge) d ∙ unspoilt h 0 0 is [] (opened h.max m₀) 0 goods refl ∙ (starts h.max m₀ room).constant in
      (subst (Inside s) (sym zero_place) (omega arith), λ ρ w sat. ap (meaning k ρ s) zero_place ∙ constant_means k s ρ ∙ sym sat.constant ∙ ap w (sym d)))

  -- the requests of a taken file end well
  pub requests_end : Ended k b lawful h is s 0 (requests b h is m₀ s)
  requests_end =
      let z : 0 + (h.inputs + h.outputs) ≡ h.inputs + h.outputs = omega arith in
      subst (Ended k b lawful h is s 0) (skip b h (h.inputs + h.outputs) 0 is [] s m 0 (omega arith) many goods ∙ ap (λ n. run b n (drop (h.inputs + h.outputs) is) s m 0) z) whole_ends
