-- What the map notes is what the items define.
use Rattle.std.proofs.Common.{◌≡◌, ℕ, suc, ◌+◌, ◌*◌, ◌/◌, ◌<◌, ◌≤◌, ltb, ◌≢◌, ◌⊎◌, List, [], ◌∷◌, ◌++◌, length, get_or, take, set, codes, sym, refl, ap, ◌∙◌, subst, inl, inr, ⊎_elim, add-zero, arith, length-set, get_or-set_other, get_or-set_same}
use Rattle.std.proofs.lemmas.Bool.{cases_eq, cases_lt, cond_both}
use Rattle.std.proofs.lemmas.List.{get_or_append_left, get_or_push, length_push, take-append-le, take_at}
use Rattle.aiger_lines.specs.declared.number.DigitFault.TheVariants.{Other}
use Rattle.rules.specs.declared.edge.Edge.{Edge}
use Rattle.rules.specs.Edges.{edge, false_edge, undefined_edge}
use Rattle.aiger_lines.specs.Forms.{Lacks, form}
use Rattle.aiger_lines.specs.declared.fields.Header.{Header}
use Rattle.aiger_check.specs.declared.faults.LineFault.{LineFault}
use Rattle.aiger_check.specs.declared.faults.LineFault.TheVariants.{Form, Literal, Twice, Undefined, Full}
use Rattle.aiger_check.specs.Circuits.{Item, input, output, gate, ends, Says, Literals, Defines, Defined, Fresh, Known, Good, Faulty, nothing, GoodAt, Begins}
use Rattle.aiger_check.specs.Checks.{Noted, note, notes, put, puts, Start}

-- one item more at the end
pub notes_push : (k : ℕ) (is : List Item) (i : Item) (m : List Edge) → notes k (is ++ (i ∷ [])) m ≡ note (k + length is) i (notes k is m)
unfolding notes
notes_push k [] i m = ap (λ n. note n i m) (sym (add-zero k))
notes_push k (j ∷ is) i m = notes_push (k + 1) is i (note k j m) ∙ (let e : k + 1 + length is ≡ k + suc (length is) = omega arith in ap (λ n. note n i (notes (k + 1) is (note k j m))) e)

pub puts_push : (n k : ℕ) (is : List Item) (i : Item) (o : List Edge) → puts n k (is ++ (i ∷ [])) o ≡ put n (k + length is) i (puts n k is o)
unfolding puts
puts_push n k [] i o = ap (λ z. put n z i o) (sym (add-zero k))
puts_push n k (j ∷ is) i o = puts_push n (k + 1) is i (put n k j o) ∙ (let e : k + 1 + length is ≡ k + suc (length is) = omega arith in ap (λ z. put n z i (puts n (k + 1) is (put n k j o))) e)

-- an item's variables are at most max
pub top : (max v : ℕ) → v ≤ 2 * max + 1 → v / 2 ≤ max
top max v l = omega arith

-- a place other than the one set, or the one
set_cases : (m : List Edge) (y : ℕ) (v : Edge) (x : ℕ) → v ≢ undefined_edge → y < length m → (y ≡ x → Noted (set m y v) x) × (Noted m x → Noted (set m y v) x)
set_cases m y v x ne l =
    let same : y ≡ x → Noted (set m y v) x = λ e u. ne (sym (get_or-set_same m y v false_edge l) ∙ ap (λ z. get_or (set m y v) z false_edge) e ∙ u) in
    (same, λ n. ⊎_elim (λ e. same e) (λ d. λ u. n (sym (get_or-set_other m y x v false_edge (λ e. d (sym e))) ∙ u)) (cases_eq y x))

module _ (max : ℕ) where
  -- one item: what it defines is noted, and what was noted stays so
  note_more : (k : ℕ) (i : Item) (m : List Edge) (x : ℕ) → k < 2000000 → max < length m → Literals max i → (Defines i x → Noted (note k i m) x) × (Noted m x → Noted (note k i m) x)
  note_more k (input v) m x few l r = set_cases m (v / 2) (edge (2 * (k + 1))) x (λ e. omega (arith, ap (λ z. z.0) e)) (omega (arith, r.top))
  note_more k (output v) m x few l r = (λ d. absurd d, λ n. n)
  note_more k (gate a b c) m x few l r = set_cases m (a / 2) false_edge x (λ e. omega (arith, ap (λ z. z.0) e)) (omega (arith, r.0.top))

  pub note_else : (k : ℕ) (i : Item) (m : List Edge) (x : ℕ) → (Defines i x → ⊥) → get_or (note k i m) x false_edge ≡ get_or m x false_edge
  note_else k (input v) m x d = get_or-set_other m (v / 2) x _ false_edge (λ e. d (sym e))
  note_else k (output v) m x d = refl
  note_else k (gate a b c) m x d = get_or-set_other m (a / 2) x _ false_edge (λ e. d (sym e))

  pub note-length : (k : ℕ) (i : Item) (m : List Edge) → length (note k i m) ≡ length m
  note-length k (input v) m = length-set m (v / 2) _
  note-length k (output v) m = refl
  note-length k (gate a b c) m = length-set m (a / 2) _

  -- the literals of every item
  abbrev pub Each : List Item → Type 0
  Each is = (j : ℕ) → j < length is → Literals max (get_or is j nothing)

  stays : (k : ℕ) (is : List Item) (m : List Edge) (x : ℕ) → k + length is < 2000000 → max < length m → Each is → Noted m x → Noted (notes k is m) x
  unfolding notes
  stays k [] m x few l e n = n
  stays k (i ∷ is) m x few l e n = stays (k + 1) is (note k i m) x (omega arith) (omega (arith, note-length k i m)) (λ j h. e (suc j) (omega arith)) ((note_more k i m x (omega arith) l (e 0 (omega arith))).1 n)

  pub noted : (k : ℕ) (is : List Item) (m : List Edge) (x : ℕ) → k + length is < 2000000 → max < length m → Each is → Noted m 0 → Defined is x → Noted (notes k is m) x
  unfolding notes
  noted k [] m x few l e n d = subst (Noted m) (sym d) n
  noted k (i ∷ is) m x few l e n (inl d) = stays (k + 1) is (note k i m) x (omega arith) (omega (arith, note-length k i m)) (λ j h. e (suc j) (omega arith)) ((note_more k i m x (omega arith) l (e 0 (omega arith))).0 d)
  noted k (i ∷ is) m x few l e n (inr d) = noted (k + 1) is (note k i m) x (omega arith) (omega (arith, note-length k i m)) (λ j h. e (suc j) (omega arith)) ((note_more k i m 0 (omega arith) l (e 0 (omega arith))).1 n) d

  defines? : (i : Item) (x : ℕ) → Defines i x ⊎ (Defines i x → ⊥)
  defines? (input v) x = cases_eq (v / 2) x
  defines? (output v) x = inr (λ d. d)
  defines? (gate a b c) x = cases_eq (a / 2) x

  pub defined : (k : ℕ) (is : List Item) (m : List Edge) (x : ℕ) → (0 < x → get_or m x false_edge ≡ undefined_edge) → Noted (notes k is m) x → Defined is x
  unfolding notes
  defined k [] m x u n = ⊎_elim (λ z. z) (λ p. absurd (n (u (omega arith)))) (cases_eq x 0)
  defined k (i ∷ is) m x u n = ⊎_elim (λ d. inl d) (λ d. inr (defined (k + 1) is (note k i m) x (λ p. note_else k i m x d ∙ u p) n)) (defines? i x)

-- the same facts of two notions of what is defined, that agree up to max
module _ (max : ℕ) (D E : ℕ → Type 0) (to : (x : ℕ) → x ≤ max → D x → E x) (from : (x : ℕ) → x ≤ max → E x → D x) where
  fresh_to : (i : Item) → Literals max i → Fresh D i → Fresh E i
  fresh_to (input v) l f = λ e. f (from (v / 2) (omega (arith, l.top)) e)
  fresh_to (output v) l f = tt
  fresh_to (gate a b c) l f = λ e. f (from (a / 2) (omega (arith, l.0.top)) e)

  known_to : (i : Item) → Literals max i → Known D i → Known E i
  known_to (input v) l f = tt
  known_to (output v) l f = tt
  known_to (gate a b c) l f = (to (b / 2) (omega (arith, l.1)) f.0, to (c / 2) (omega (arith, l.2)) f.1)

  pub good_to : (i : Item) → Good max D i → Good max E i
  good_to i g = record { literals = g.literals; fresh = fresh_to i g.literals g.fresh; known = known_to i g.literals g.known }

module _ (h : Header) (k : ℕ) (bs : List ℕ) (D E : ℕ → Type 0) (to : (x : ℕ) → x ≤ h.max → D x → E x) (from : (x : ℕ) → x ≤ h.max → E x → D x) where
  pub faulty_to : (f : LineFault) → Faulty h k bs D f → Faulty h k bs E f
  faulty_to (Form e) f = f
  faulty_to Literal f = f
  faulty_to Twice f = (f.0, f.1, (f.2.0, λ e. f.2.1 (fresh_to h.max E D from to f.0 f.2.0 e)))
  faulty_to Undefined f = (f.0, f.1, (f.2.0, fresh_to h.max D E to from f.0 f.2.0 f.2.1, λ e. f.2.2 (known_to h.max E D from to f.0 f.2.0 e)))
  faulty_to Full f = f

-- one good line more
pub begins_more : (h : Header) (ls : List (List ℕ)) (is : List Item) (i : Item) → Begins h ls is → GoodAt h ls (length is) is i → Begins h ls (is ++ (i ∷ []))
begins_more h ls is i b g k l =
    ⊎_elim
    (λ before. subst (λ bs. GoodAt h ls k bs (get_or (is ++ (i ∷ [])) k nothing)) (sym (take-append-le k is (i ∷ []) (omega arith)))
    (subst (GoodAt h ls k (take k is)) (sym (get_or_append_left is (i ∷ []) nothing k before)) (b k before)))
    (λ after.
    let e : length is ≡ k = omega (arith, length_push is i) in
    subst (λ bs. GoodAt h ls k bs (get_or (is ++ (i ∷ [])) k nothing)) (sym (take_at is (i ∷ []) k e))
    (subst (GoodAt h ls k is) (sym (get_or_push is i nothing k e)) (subst (λ n. GoodAt h ls n is i) e g)))
    (cases_lt k (length is))

pub each_literal : (h : Header) (ls : List (List ℕ)) (is : List Item) → Begins h ls is → Each h.max is
each_literal h ls is b j l = (b j l).good.literals

-- one turn of the pass: the items so far, and the map that notes them
module _ (h : Header) (ls : List (List ℕ)) (m : List Edge) (start : Start h.max m) (room : h.max < length m) (is : List Item) (begins : Begins h ls is) (k : ℕ) (long : length is ≡ k) (few : k < 2000000) (now : List Edge) (kept : now ≡ notes 0 is m) where
  zeroth : Noted m 0
  zeroth u = omega (arith, ap (λ e. e.0) (sym start.constant ∙ u))

  pub from_items : (x : ℕ) → x ≤ h.max → Defined is x → Noted now x
  from_items x l d = subst (λ z. Noted z x) (sym kept) (noted h.max 0 is m x (omega arith) room (each_literal h ls is begins) zeroth d)

  pub to_items : (x : ℕ) → x ≤ h.max → Noted now x → Defined is x
  to_items x l n = defined h.max 0 is m x (λ p. start.others x p l) (subst (λ z. Noted z x) kept n)

  module _ (bs : List ℕ) (line : bs ≡ get_or ls (k + 1) []) where
    here : bs ≡ get_or ls (1 + length is) []
    here = line ∙ (let e : k + 1 ≡ 1 + length is = omega arith in ap (λ n. get_or ls n []) e)

    pub first_bad : (f : LineFault) → Faulty h k bs (Noted now) f → Faulty h (length is) (get_or ls (1 + length is) []) (Defined is) f
    first_bad f w =
        subst (λ n. Faulty h n (get_or ls (1 + length is) []) (Defined is) f) (sym long)
        (subst (λ l. Faulty h k l (Defined is) f) here (faulty_to h k bs (Noted now) (Defined is) to_items from_items f w))

    pub one_more : (i : Item) → Says h k bs i → Good h.max (Noted now) i → Begins h ls (is ++ (i ∷ []))
    one_more i s g = begins_more h ls is i begins (record {
      says = subst (λ n. Says h n (get_or ls (1 + length is) []) i) (sym long) (subst (λ l. Says h k l i) here s);
      good = good_to h.max (Noted now) (Defined is) to_items from_items i g;
    })

  pub noted_more : (i : Item) → note k i now ≡ notes 0 (is ++ (i ∷ [])) m
  noted_more i = sym (notes_push 0 is i m ∙ (let e : 0 + length is ≡ k = omega arith in let back = sym kept in λ t. note (e t) i (back t)))

pub put_more : (n : ℕ) (is : List Item) (k : ℕ) (o now : List Edge) (i : Item) → length is ≡ k → now ≡ puts n 0 is o → put n k i now ≡ puts n 0 (is ++ (i ∷ [])) o
put_more n is k o now i long kept = sym (puts_push n 0 is i o ∙ (let e : 0 + length is ≡ k = omega arith in let back = sym kept in λ t. put n (e t) i (back t)))

-- a missing line
pub missing : (h : Header) (k : ℕ) (bs : List ℕ) → bs ≡ [] → Lacks (form (ends h k)) bs Other
missing h k bs e = cond_both (ltb k (h.inputs + h.outputs)) (codes "\n") (codes "  \n") (λ es. Lacks (form es) bs Other) (λ t. inl e) (λ t. inl e)
