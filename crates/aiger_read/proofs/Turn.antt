-- One gate line more, of a file that is known to be good.
use Rattle.std.proofs.Common.{◌≡◌, ℕ, ◌+◌, ◌/◌, ◌<◌, ◌≤◌, Bool, cond, List, [], ◌∷◌, length, get_or, take, drop, set, Some, Option, Ok, Err, Result, codes, sym, refl, ap, ◌∙◌, subst, arith}
use Rattle.std.proofs.lemmas.List.{drop_more, drop_all}
use Rattle.std.proofs.lemmas.Bool.{cond-false, le-ltb}
use Rattle.std.specs.Prelude.{MatchResult, IsOk, IsErrAnd}
use Rattle.std.specs.Borrow.{Bor}
use Rattle.aiger_lines.specs.declared.number.DigitFault.{DigitFault}
use Rattle.aiger_lines.specs.Forms.{Has, form}
use Rattle.aiger_lines.specs.Shapes.{AndRead}
use Rattle.aiger_lines.specs.declared.fields.Header.{Header}
use Rattle.aiger_lines.specs.declared.fields.AndLine.{AndLine}
use Rattle.aiger_lines.proofs.Same.{has_unique, has_lacks}
use Rattle.rules.specs.declared.edge.Edge.{Edge}
use Rattle.rules.specs.declared.window.Window.{Window}
use Rattle.rules.specs.declared.window.Reply.{Reply}
use Rattle.graph_model.specs.declared.refusal.Refusal.{Refusal}
use Rattle.graph_model.specs.Graphs.{State}
use Rattle.graph_model.specs.Requests.{and_of}
use Rattle.aiger_check.specs.declared.reader.Reader.{Reader}
use Rattle.aiger_check.specs.Reading.{all, Stepped}
use Rattle.aiger_check.specs.Circuits.{Item, input, output, gate, numbers, Due, ends, Says, Defined, Good, Begins, nothing}
use Rattle.aiger_read.specs.Requests.{through, done, stopped, run}

module _ (h : Header) (ls : List (List ℕ)) (is : List Item) (begins : Begins h ls is) (k : ℕ) (gates : h.inputs + h.outputs ≤ k) (within : k < length is) where
  three : ends h k ≡ codes "  \n"
  three = cond-false _ _ _ (le-ltb k (h.inputs + h.outputs) gates)

  here : Says h k (get_or ls (1 + k) []) (get_or is k nothing)
  here = (begins k within).says

  reads : Has (form (codes "  \n")) (get_or ls (1 + k) []) (numbers (get_or is k nothing))
  reads = subst (λ es. Has (form es) (get_or ls (1 + k) []) (numbers (get_or is k nothing))) three here.reads

  pub read_well : (r : Result AndLine DigitFault) → AndRead (get_or ls (1 + k) []) r → IsOk r
  read_well (Ok x) l = refl
  read_well (Err e) l = absurd (has_lacks (codes "  \n") (get_or ls (1 + k) []) (numbers (get_or is k nothing)) e reads l)

  a_gate : (i : Item) (x : AndLine) → Due h k i → numbers i ≡ x.lhs ∷ x.left ∷ x.right ∷ [] → i ≡ gate x.lhs x.left x.right
  a_gate (input v) x d e = absurd (omega (arith, d))
  a_gate (output v) x d e = absurd (omega (arith, d.1))
  a_gate (gate a b c) x d e = λ i. gate (get_or (e i) 0 0) (get_or (e i) 1 0) (get_or (e i) 2 0)

  pub is_gate : (x : AndLine) → AndRead (get_or ls (1 + k) []) (Ok x) → get_or is k nothing ≡ gate x.lhs x.left x.right
  is_gate x r = a_gate (get_or is k nothing) x here.due (has_unique (codes "  \n") (get_or ls (1 + k) []) (numbers (get_or is k nothing)) (x.lhs ∷ x.left ∷ x.right ∷ []) reads r)

  pub good_gate : (x : AndLine) → AndRead (get_or ls (1 + k) []) (Ok x) → (x.lhs / 2 ≤ h.max) × (x.left / 2 ≤ h.max) × (x.right / 2 ≤ h.max)
  good_gate x r =
      let g = subst (Good h.max (Defined (take k is))) (is_gate x r) (begins k within).good in
      (omega (arith, g.literals.0.top), omega (arith, g.literals.1), omega (arith, g.literals.2))

  module _ (b : Window → Reply) (s : State) (m : List Edge) (a : ℕ) (x : AndLine) (r : AndRead (get_or ls (1 + k) []) (Ok x)) where
    first : run b k (drop k is) s m a ≡ run b k (gate x.lhs x.left x.right ∷ drop (k + 1) is) s m a
    first = ap (λ xs. run b k xs s m a) (drop_more is k nothing within ∙ ap (λ i. i ∷ drop (k + 1) is) (is_gate x r))

    pub one_more : (e : Edge) (new : Bool) → Ok (e, new) ≡ (and_of b s (through m x.left) (through m x.right)).answer → run b k (drop k is) s m a ≡ run b (k + 1) (drop (k + 1) is) (and_of b s (through m x.left) (through m x.right)).after (set m (x.lhs / 2) e) (a + cond new 1 0)
    unfolding run
    one_more e new q =
        first ∙ ap (λ o. elim o [ Ok y ↦ run b (k + 1) (drop (k + 1) is) (and_of b s (through m x.left) (through m x.right)).after (set m (x.lhs / 2) y.0) (a + cond y.1 1 0) | Err c ↦ stopped k (and_of b s (through m x.left) (through m x.right)).after ]) (sym q)

    pub no_more : (c : Refusal) → Err c ≡ (and_of b s (through m x.left) (through m x.right)).answer → run b k (drop k is) s m a ≡ stopped k (and_of b s (through m x.left) (through m x.right)).after
    unfolding run
    no_more c q =
        first ∙ ap (λ o. elim o [ Ok y ↦ run b (k + 1) (drop (k + 1) is) (and_of b s (through m x.left) (through m x.right)).after (set m (x.lhs / 2) y.0) (a + cond y.1 1 0) | Err c ↦ stopped k (and_of b s (through m x.left) (through m x.right)).after ]) (sym q)

-- how the line that a step hands out is read
pub line_read : (r q : Reader) (o : Option (Bor (List ℕ))) (b : Bor (List ℕ)) → Stepped r o q → o ≡ Some b → (ls : List (List ℕ)) → all r ≡ ls → (k : ℕ) → r.number ≡ k → (a : Result AndLine DigitFault) → AndRead b.now a → AndRead (get_or ls k []) a
line_read r q o b s was ls same k at a l = subst (λ z. AndRead z a) ((subst (λ z. Stepped r z q) was s).1 ∙ (λ i. get_or (same i) (at i) [])) l

-- what an answer was, where map_err hands its good side on and turns the other by P
pub kept : {T E F : Type 0} (P : E → F → Type 0) (r : Result T E) (q : Result T F) (x : T) → q ≡ Ok x → MatchResult r (λ y. q ≡ Ok y) (λ e. IsErrAnd q (P e)) → r ≡ Ok x
kept P (Ok y) q x is m = ap (λ z. Ok (elim z [ Ok v ↦ v | Err e ↦ y ])) (sym m ∙ is)
kept P (Err e) q x is m = absurd (subst (λ z. IsErrAnd z (P e)) is m)

pub turned : {T E F : Type 0} (P : E → F → Type 0) (g : F) → ((e : E) (f : F) → P e f → f ≡ g) → (r : Result T E) (q : Result T F) (f : F) → q ≡ Err f → MatchResult r (λ y. q ≡ Ok y) (λ e. IsErrAnd q (P e)) → (e : E) × (r ≡ Err e) × (f ≡ g)
turned P g means (Ok y) q f is m = grind arith
turned P g means (Err e) q f is m = (e, refl, means e f (subst (λ z. IsErrAnd z (P e)) is m))

-- after the last gate
pub at_end : (b : Window → Reply) (is : List Item) (k : ℕ) (s : State) (m : List Edge) (a : ℕ) → length is ≤ k → run b k (drop k is) s m a ≡ done m s a
unfolding run
at_end b is k s m a l = ap (λ xs. run b k xs s m a) (drop_all k is l)
