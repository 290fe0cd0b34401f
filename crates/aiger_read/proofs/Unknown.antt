-- The place of a variable that no line defines is left alone.
use Rattle.std.proofs.Common.{◌≡◌, ℕ, zero, suc, ◌+◌, ◌/◌, ◌<◌, ◌≤◌, Bool, cond, List, [], ◌∷◌, length, get_or, drop, set, Ok, Err, Result, sym, refl, ◌∙◌, subst, inl, inr, arith, get_or-set_other}
use Rattle.rules.specs.declared.edge.Edge.{Edge}
use Rattle.rules.specs.declared.window.Window.{Window}
use Rattle.rules.specs.declared.window.Reply.{Reply}
use Rattle.rules.specs.Edges.{false_edge, undefined_edge}
use Rattle.graph_model.specs.declared.refusal.Refusal.{Refusal}
use Rattle.graph_model.specs.Graphs.{State}
use Rattle.graph_model.specs.Requests.{and_of}
use Rattle.aiger_lines.specs.declared.fields.Header.{Header}
use Rattle.aiger_check.specs.Circuits.{Item, input, output, gate, Defined}
use Rattle.aiger_check.specs.Checks.{note, notes}
use Rattle.aiger_check.specs.Calls.{opened}
use Rattle.aiger_check.proofs.Keeping.{starts}
use Rattle.aiger_check.proofs.Noting.{note_else}
use Rattle.aiger_read.specs.Requests.{through, Outcome, done, stopped, run}
use Rattle.aiger_read.specs.Reads.{requests}

defined_zero : (is : List Item) → Defined is 0
defined_zero [] = refl
defined_zero (i ∷ is) = inr (defined_zero is)

positive : (is : List Item) (x : ℕ) → (Defined is x → ⊥) → 0 < x
positive is zero out = absurd (out (defined_zero is))
positive is (suc x) out = omega arith

defined_tail : (k : ℕ) (is : List Item) (x : ℕ) → Defined (drop k is) x → Defined is x
defined_tail zero is x d = d
defined_tail (suc k) [] x d = d
defined_tail (suc k) (i ∷ is) x d = inr (defined_tail k is x d)

notes_unknown : (max k : ℕ) (is : List Item) (m : List Edge) (x : ℕ) → (Defined is x → ⊥) → get_or (notes k is m) x false_edge ≡ get_or m x false_edge
unfolding notes
notes_unknown max k [] m x out = refl
notes_unknown max k (i ∷ is) m x out = notes_unknown max (k + 1) is (note k i m) x (λ d. out (inr d)) ∙ note_else max k i m x (λ d. out (inl d))

-- the map after the requests, if they all were answered
abbrev Left : List Edge → ℕ → Outcome → Type 0
Left m x (done p t n) = get_or p x false_edge ≡ get_or m x false_edge
Left m x (stopped k t) = Unit {0}

left_from : (m p : List Edge) (x : ℕ) (o : Outcome) → get_or p x false_edge ≡ get_or m x false_edge → Left p x o → Left m x o
left_from m p x (done q t n) e l = l ∙ e
left_from m p x (stopped k t) e l = tt

run_unknown : (b : Window → Reply) (is : List Item) (n : ℕ) (s : State) (m : List Edge) (a x : ℕ) → (Defined is x → ⊥) → Left m x (run b n is s m a)
unfolding run
run_unknown b [] n s m a x out = refl
run_unknown b (input v ∷ is) n s m a x out = run_unknown b is (n + 1) s m a x (λ d. out (inr d))
run_unknown b (output v ∷ is) n s m a x out = run_unknown b is (n + 1) s m a x (λ d. out (inr d))
run_unknown b (gate c y z ∷ is) n s m a x out =
    go (and_of b s (through m y) (through m z)).answer (λ e new. run_unknown b is (n + 1) (and_of b s (through m y) (through m z)).after (set m (c / 2) e) (a + cond new 1 0) x (λ d. out (inr d)))
  where
    t : State
    t = (and_of b s (through m y) (through m z)).after

    go : (q : Result (Edge × Bool) Refusal) → ((e : Edge) (new : Bool) → Left (set m (c / 2) e) x (run b (n + 1) is t (set m (c / 2) e) (a + cond new 1 0))) → Left m x (elim q [ Ok f ↦ run b (n + 1) is t (set m (c / 2) f.0) (a + cond f.1 1 0) | Err r ↦ stopped n t ])
    go (Ok f) rest = left_from m (set m (c / 2) f.0) x (run b (n + 1) is t (set m (c / 2) f.0) (a + cond f.1 1 0)) (get_or-set_other m (c / 2) x f.0 false_edge (λ e. out (inl (sym e)))) (rest f.0 f.1)
    go (Err r) rest = tt

pub unknown : (b : Window → Reply) (h : Header) (is : List Item) (m : List Edge) (s t : State) (n : ℕ) (p : List Edge) → h.max < length m → requests b h is m s ≡ done p t n → (x : ℕ) → x ≤ h.max → (Defined is x → ⊥) → get_or p x false_edge ≡ undefined_edge
unknown b h is m s t n p room e x top out =
    let some : 0 < x = positive is x out in
    subst (Left (notes 0 is (opened h.max m)) x) e (run_unknown b (drop (h.inputs + h.outputs) is) (h.inputs + h.outputs) s (notes 0 is (opened h.max m)) 0 x (λ d. out (defined_tail (h.inputs + h.outputs) is x d)))
    ∙ notes_unknown h.max 0 is (opened h.max m) x out
    ∙ (starts h.max m room).others x some top
