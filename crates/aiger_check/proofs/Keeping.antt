-- What the pass leaves in the buffers: the places beyond its own, and each output's literal.
use Rattle.std.proofs.Common.{◌≡◌, ℕ, zero, suc, ◌+◌, ◌-◌, ◌*◌, ◌/◌, ◌<◌, ◌≤◌, List, [], ◌∷◌, length, get_or, drop, replicate, refl, ap, ◌∙◌, subst, add-zero, arith, length-set, get_or-set_other, get_or-set_same}
use Rattle.std.proofs.lemmas.List.{drop-set-lt, drop_at, length-replicate, get_or_append_left, get_or-replicate, length-append, length-drop}
use Rattle.rules.specs.declared.edge.Edge.{Edge}
use Rattle.rules.specs.Edges.{edge, false_edge, undefined_edge}
use Rattle.aiger_lines.specs.declared.fields.Header.{Header}
use Rattle.aiger_check.specs.Circuits.{Item, input, output, gate, Due, Literals, nothing, Begins}
use Rattle.aiger_check.specs.Checks.{note, notes, put, puts, Start}
use Rattle.aiger_check.specs.Files.{literal, marked}
use Rattle.aiger_check.specs.Calls.{opened}
use Rattle.aiger_check.proofs.Noting.{Each, each_literal}

drop-note : (max k : ℕ) (i : Item) (m : List Edge) → Literals max i → drop (max + 1) (note k i m) ≡ drop (max + 1) m
drop-note max k (input v) m l = drop-set-lt (max + 1) m (v / 2) _ (omega (arith, l.top))
drop-note max k (output v) m l = refl
drop-note max k (gate a b c) m l = drop-set-lt (max + 1) m (a / 2) _ (omega (arith, l.0.top))

pub drop-notes : (max k : ℕ) (is : List Item) (m : List Edge) → Each max is → drop (max + 1) (notes k is m) ≡ drop (max + 1) m
unfolding notes
drop-notes max k [] m e = refl
drop-notes max k (i ∷ is) m e = drop-notes max (k + 1) is (note k i m) (λ j l. e (suc j) (omega arith)) ∙ drop-note max k i m (e 0 (omega arith))

pub length_marked : (n : ℕ) (xs : List Edge) → n ≤ length xs → length (marked n xs) ≡ length xs
length_marked n xs l = length-append (replicate n undefined_edge) (drop n xs) ∙ omega (arith, length-replicate {A = Edge} n undefined_edge, length-drop n xs)

pub drop-marked : (n : ℕ) (xs : List Edge) → drop n (marked n xs) ≡ drop n xs
drop-marked n xs = drop_at (replicate n undefined_edge) (drop n xs) n (length-replicate n undefined_edge)

pub drop-opened : (max : ℕ) (m : List Edge) → drop (max + 1) (opened max m) ≡ drop (max + 1) m
drop-opened max m = drop-set-lt (max + 1) (marked (max + 1) m) 0 false_edge (omega arith) ∙ drop-marked (max + 1) m

pub starts : (max : ℕ) (m : List Edge) → max < length m → Start max (opened max m)
starts max m l = record {
  constant = get_or-set_same (marked (max + 1) m) 0 false_edge false_edge (omega (arith, length_marked (max + 1) m (omega arith)));
  others = λ x p h.
      get_or-set_other (marked (max + 1) m) 0 x false_edge false_edge (λ e. omega arith)
      ∙ get_or_append_left (replicate (max + 1) undefined_edge) (drop (max + 1) m) false_edge x (omega (arith, length-replicate {A = Edge} (max + 1) undefined_edge))
      ∙ get_or-replicate (max + 1) x undefined_edge false_edge (omega arith);
}

module _ (h : Header) where
  abbrev Dues : ℕ → List Item → Type 0
  Dues k is = (s : ℕ) → s < length is → Due h (k + s) (get_or is s nothing)

  later : (k : ℕ) (i : Item) (is : List Item) → Dues k (i ∷ is) → Dues (k + 1) is
  later k i is d s l = let e : k + suc s ≡ k + 1 + s = omega arith in subst (λ n. Due h n (get_or is s nothing)) e (d (suc s) (omega arith))

  first : (k : ℕ) (i : Item) (is : List Item) → Dues k (i ∷ is) → Due h k i
  first k i is d = subst (λ n. Due h n i) (add-zero k) (d 0 (omega arith))

  drop-put : (k : ℕ) (i : Item) (o : List Edge) → Due h k i → drop h.outputs (put h.inputs k i o) ≡ drop h.outputs o
  drop-put k (input v) o d = refl
  drop-put k (output v) o d = drop-set-lt h.outputs o (k - h.inputs) (edge v) (omega (arith, d.0, d.1))
  drop-put k (gate a b c) o d = refl

  pub drop-puts : (k : ℕ) (is : List Item) (o : List Edge) → Dues k is → drop h.outputs (puts h.inputs k is o) ≡ drop h.outputs o
  unfolding puts
  drop-puts k [] o d = refl
  drop-puts k (i ∷ is) o d = drop-puts (k + 1) is (put h.inputs k i o) (later k i is d) ∙ drop-put k i o (first k i is d)

  put_below : (k : ℕ) (i : Item) (o : List Edge) (x : ℕ) → Due h k i → x + h.inputs < k → get_or (put h.inputs k i o) x false_edge ≡ get_or o x false_edge
  put_below k (input v) o x d l = refl
  put_below k (output v) o x d l = get_or-set_other o (k - h.inputs) x (edge v) false_edge (λ e. omega arith)
  put_below k (gate a b c) o x d l = refl

  puts_below : (k : ℕ) (is : List Item) (o : List Edge) (x : ℕ) → Dues k is → x + h.inputs < k → get_or (puts h.inputs k is o) x false_edge ≡ get_or o x false_edge
  unfolding puts
  puts_below k [] o x d l = refl
  puts_below k (i ∷ is) o x d l = puts_below (k + 1) is (put h.inputs k i o) x (later k i is d) (omega arith) ∙ put_below k i o x (first k i is d) l

  put_at : (k : ℕ) (i : Item) (o : List Edge) → Due h k i → h.inputs ≤ k → k < h.inputs + h.outputs → h.outputs ≤ length o → get_or (put h.inputs k i o) (k - h.inputs) false_edge ≡ edge (literal i)
  put_at k (input v) o d a b l = absurd (omega arith)
  put_at k (output v) o d a b l = get_or-set_same o (k - h.inputs) (edge v) false_edge (omega arith)
  put_at k (gate x y z) o d a b l = absurd (omega arith)

  put-length : (k : ℕ) (i : Item) (o : List Edge) → length (put h.inputs k i o) ≡ length o
  put-length k (input v) o = refl
  put-length k (output v) o = length-set o (k - h.inputs) (edge v)
  put-length k (gate x y z) o = refl

  puts_at : (k : ℕ) (is : List Item) (o : List Edge) (t : ℕ) → Dues k is → t < length is → h.inputs ≤ k + t → k + t < h.inputs + h.outputs → h.outputs ≤ length o → get_or (puts h.inputs k is o) (k + t - h.inputs) false_edge ≡ edge (literal (get_or is t nothing))
  unfolding puts
  puts_at k [] o t d l a b r = absurd (omega arith)
  puts_at k (i ∷ is) o zero d l a b r =
      ap (λ n. get_or (puts h.inputs (k + 1) is (put h.inputs k i o)) (n - h.inputs) false_edge) (add-zero k)
      ∙ puts_below (k + 1) is (put h.inputs k i o) (k - h.inputs) (later k i is d) (omega arith)
      ∙ put_at k i o (first k i is d) (omega arith) (omega arith) r
  puts_at k (i ∷ is) o (suc t) d l a b r =
      let e : k + suc t ≡ k + 1 + t = omega arith in
      ap (λ n. get_or (puts h.inputs (k + 1) is (put h.inputs k i o)) (n - h.inputs) false_edge) e
      ∙ puts_at (k + 1) is (put h.inputs k i o) t (later k i is d) (omega arith) (omega arith) (omega arith) (omega (arith, put-length k i o))

-- of the items that begin a file
module _ (h : Header) (ls : List (List ℕ)) (is : List Item) (b : Begins h ls is) where
  dues : Dues h 0 is
  dues s l = let e : s ≡ 0 + s = omega arith in subst (λ n. Due h n (get_or is s nothing)) e (b s l).says.due

  pub kept_map : (m : List Edge) → drop (h.max + 1) (notes 0 is m) ≡ drop (h.max + 1) m
  kept_map m = drop-notes h.max 0 is m (each_literal h ls is b)

  pub kept_outputs : (o : List Edge) → drop h.outputs (puts h.inputs 0 is o) ≡ drop h.outputs o
  kept_outputs o = drop-puts h 0 is o dues

  pub output_at : (o : List Edge) (j : ℕ) → h.inputs + h.outputs ≤ length is → j < h.outputs → h.outputs ≤ length o → get_or (puts h.inputs 0 is o) j false_edge ≡ edge (literal (get_or is (h.inputs + j) nothing))
  output_at o j long l r =
      let e : j ≡ 0 + (h.inputs + j) - h.inputs = omega arith in
      ap (λ n. get_or (puts h.inputs 0 is o) n false_edge) e ∙ puts_at h 0 is o (h.inputs + j) dues (omega arith) (omega arith) (omega arith) r

  literal_top : (max : ℕ) (i : Item) → Literals max i → literal i ≤ 2 * max + 1
  literal_top max (input v) l = omega arith
  literal_top max (output v) l = l
  literal_top max (gate x y z) l = omega arith

  pub output_top : (j : ℕ) → h.inputs + h.outputs ≤ length is → j < h.outputs → literal (get_or is (h.inputs + j) nothing) / 2 ≤ h.max
  output_top j long l = omega (arith, literal_top h.max (get_or is (h.inputs + j) nothing) (b (h.inputs + j) (omega arith)).good.literals)
