-- The items of a file, cut into its three sections.
use mathlib.Core.Path.{◌≡◌, refl, ap, subst, ◌∙◌}
use mathlib.Core.List.{List, [], ◌∷◌, ◌++◌, map}
use Prim.Native.Nat.{ℕ, suc, ◌+◌, ◌*◌, ◌/◌, ◌≤◌}
use native.Mathlib.Omega.{arith}
use lib.ListN.{length}
use Rattle.aiger_lines.specs.declared.fields.Header.{Header}
use Rattle.aiger_check.specs.Circuits.{Item, input, output, gate, total}
use Rattle.aiger_check.specs.Text.{lines}
use Rattle.aiger_check.specs.Files.{Taken}
use Rattle.aiger_check.proofs.Goods.{Goods, goods_from}
use Rattle.aiger_circuit.specs.Records.{Gate, Circuit, the_input, the_gate, header_of, items_of}

module _ (h : Header) where
  pub record Cut {X : Type 0} (f : X → Item) (n to : ℕ) (is : List Item) : Type 0 where
    pub front : List X
    pub rest : List Item
    pub before : List Item
    pub whole : is ≡ map f front ++ rest
    pub count : n + length front ≡ to
    pub goods : Goods h to before rest
    pub left : to + length rest ≡ total h

  inputs : (is before : List Item) (n : ℕ) → Goods h n before is → n ≤ h.inputs → n + length is ≡ total h → Cut the_input n h.inputs is
  inputs [] before n g l t = record { front = []; rest = []; before = before; whole = refl; count = omega arith; goods = tt; left = omega arith }
  inputs (input v ∷ is) before n g l t =
      let r = inputs is (before ++ (input v ∷ [])) (n + 1) g.2 (omega (arith, g.1)) (omega arith) in
      let e : v ≡ 2 * (v / 2) = omega (arith, g.0.literals.even) in
      record { front = v / 2 ∷ r.front; rest = r.rest; before = r.before; whole = (λ i. input (e i) ∷ r.whole i); count = omega (arith, r.count); goods = r.goods; left = r.left }
  inputs (output v ∷ is) before n g l t =
      let e : n ≡ h.inputs = omega (arith, g.1.0) in
      record { front = []; rest = output v ∷ is; before = before; whole = refl; count = omega arith; goods = subst (λ k. Goods h k before (output v ∷ is)) e g; left = omega arith }
  inputs (gate a b c ∷ is) before n g l t =
      let e : n ≡ h.inputs = omega (arith, g.1) in
      record { front = []; rest = gate a b c ∷ is; before = before; whole = refl; count = omega arith; goods = subst (λ k. Goods h k before (gate a b c ∷ is)) e g; left = omega arith }

  outputs : (is before : List Item) (n : ℕ) → Goods h n before is → h.inputs ≤ n → n ≤ h.inputs + h.outputs → n + length is ≡ total h → Cut output n (h.inputs + h.outputs) is
  outputs [] before n g a l t = record { front = []; rest = []; before = before; whole = refl; count = omega arith; goods = tt; left = omega arith }
  outputs (input v ∷ is) before n g a l t = absurd (omega (arith, g.1))
  outputs (output v ∷ is) before n g a l t =
      let r = outputs is (before ++ (output v ∷ [])) (n + 1) g.2 (omega arith) (omega (arith, g.1.1)) (omega arith) in
      record { front = v ∷ r.front; rest = r.rest; before = r.before; whole = (λ i. output v ∷ r.whole i); count = omega (arith, r.count); goods = r.goods; left = r.left }
  outputs (gate x b c ∷ is) before n g a l t =
      let e : n ≡ h.inputs + h.outputs = omega (arith, g.1) in
      record { front = []; rest = gate x b c ∷ is; before = before; whole = refl; count = omega arith; goods = subst (λ k. Goods h k before (gate x b c ∷ is)) e g; left = omega arith }

  gates : (is before : List Item) (n : ℕ) → Goods h n before is → h.inputs + h.outputs ≤ n → (gs : List Gate) × (is ≡ map the_gate gs) × (length gs ≡ length is)
  gates [] before n g l = ([], refl, refl)
  gates (input v ∷ is) before n g l = absurd (omega (arith, g.1))
  gates (output v ∷ is) before n g l = absurd (omega (arith, g.1.1))
  gates (gate a b c ∷ is) before n g l =
      let r = gates is (before ++ (gate a b c ∷ [])) (n + 1) g.2 (omega arith) in
      let e : a ≡ 2 * (a / 2) = omega (arith, g.0.literals.0.even) in
      (record { lhs = a / 2; left = b; right = c } ∷ r.0, (λ i. gate (e i) b c ∷ r.1 i), ap suc r.2)

joined : (is ins rest outs more gs : List Item) → is ≡ ins ++ rest → rest ≡ outs ++ more → more ≡ gs → is ≡ ins ++ (outs ++ gs)
joined is ins rest outs more gs p q r = p ∙ ap (λ xs. ins ++ xs) (q ∙ ap (λ xs. outs ++ xs) r)

pub some : (bs : List ℕ) (graph places outs : ℕ) (h : Header) (is : List Item) → Taken bs graph places outs h is → (c : Circuit) × (h ≡ header_of c) × (is ≡ items_of c)
some bs graph places outs h is t =
    let g = goods_from h (lines bs) is t.whole.begins is [] 0 refl refl in
    let a = inputs h is [] 0 g (omega arith) (omega (arith, t.whole.count)) in
    let b = outputs h a.rest a.before h.inputs a.goods (omega arith) (omega arith) a.left in
    let c = gates h b.rest b.before (h.inputs + h.outputs) b.goods (omega arith) in
    let ins : h.inputs ≡ length a.front = omega (arith, a.count) in
    let outs : h.outputs ≡ length b.front = omega (arith, b.count) in
    let ands : h.ands ≡ length c.0 = omega (arith, c.2, b.left) in
    let none = t.opens.latches in (
      record { max = h.max; inputs = a.front; outputs = b.front; gates = c.0 },
      (λ i. record { max = h.max; inputs = ins i; latches = none i; outputs = outs i; ands = ands i }),
      joined is (map the_input a.front) a.rest (map output b.front) b.rest (map the_gate c.0) a.whole b.whole c.1,
    )
