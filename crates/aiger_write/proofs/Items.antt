-- What is left of a text before each of its lines.
use Rattle.std.proofs.Common.{◌≡◌, ℕ, suc, ◌+◌, ◌-◌, ◌*◌, ◌<◌, ◌≤◌, List, [], ◌∷◌, ◌++◌, length, get_or, drop, sym, ap, ◌∙◌, ap₂, arith}
use Rattle.std.specs.List.{flat_map}
use Rattle.std.proofs.lemmas.List.{drop_more, drop_all}
use Rattle.rules.specs.declared.edge.Edge.{Edge}
use Rattle.rules.specs.declared.pair.Pair.{Pair}
use Rattle.rules.specs.Edges.{edge}
use Rattle.graph_model.specs.Graphs.{State}
use Rattle.aiger_write.specs.Texts.{line_text, item_text, header_text, inputs_of, outputs_of, gates_of, items}
use Rattle.aiger_write.specs.Writing.{text_of}

-- the lines of pairs, the first of which has node p
abbrev pub gates_left : ℕ → List Pair → List ℕ
gates_left p ps = flat_map item_text (gates_of p ps)

pub gates_more : (p m q : ℕ) (ps qs : List Pair) (x : Pair) → m ≡ p → q ≡ p + 1 → ps ≡ x ∷ qs → gates_left p ps ≡ line_text (2 * m ∷ x.larger.0 ∷ x.smaller.0 ∷ []) ++ gates_left q qs
gates_more p m q ps qs x here next e = ap (gates_left p) e ∙ ap₂ (λ a b. line_text (2 * a ∷ x.larger.0 ∷ x.smaller.0 ∷ []) ++ gates_left b qs) (sym here) (sym next)

pub gates_all : (p : ℕ) (ps : List Pair) → ps ≡ [] → gates_left p ps ≡ []
gates_all p ps e = ap (gates_left p) e

module _ (s : State) (os : List Edge) where
  -- from output i on
  abbrev pub outputs_left : ℕ → List ℕ
  outputs_left i = flat_map item_text (outputs_of (drop i os) ++ gates_of (s.inputs + 1) s.pairs)

  -- from the input after the first j on
  abbrev pub inputs_left : ℕ → List ℕ
  inputs_left j = flat_map item_text (inputs_of j (s.inputs - j) ++ (outputs_of os ++ gates_of (s.inputs + 1) s.pairs))

  pub inputs_more : (j : ℕ) → j < s.inputs → inputs_left j ≡ line_text (2 * (j + 1) ∷ []) ++ inputs_left (j + 1)
  inputs_more j l = let e : s.inputs - j ≡ suc (s.inputs - (j + 1)) = omega arith in ap (λ k. flat_map item_text (inputs_of j k ++ (outputs_of os ++ gates_of (s.inputs + 1) s.pairs))) e

  pub inputs_all : (j : ℕ) → s.inputs ≤ j → inputs_left j ≡ outputs_left 0
  inputs_all j l = let e : s.inputs - j ≡ 0 = omega arith in ap (λ k. flat_map item_text (inputs_of j k ++ (outputs_of os ++ gates_of (s.inputs + 1) s.pairs))) e

  pub outputs_more : (i : ℕ) → i < length os → outputs_left i ≡ line_text ((get_or os i (edge 0)).0 ∷ []) ++ outputs_left (i + 1)
  outputs_more i l = ap (λ es. flat_map item_text (outputs_of es ++ gates_of (s.inputs + 1) s.pairs)) (drop_more os i (edge 0) l)

  pub outputs_all : (i : ℕ) → length os ≤ i → outputs_left i ≡ gates_left (s.inputs + 1) s.pairs
  outputs_all i l = ap (λ es. flat_map item_text (outputs_of es ++ gates_of (s.inputs + 1) s.pairs)) (drop_all i os l)

  -- the header and all lines, where n and a count the inputs and the gates
  pub text_parts : (n a : ℕ) → n ≡ s.inputs → a ≡ length s.pairs → text_of s os ≡ header_text (record { max = n + a; inputs = n; latches = 0; outputs = length os; ands = a }) ++ inputs_left 0
  unfolding text_of items
  text_parts n a ins ands =
      let e : s.inputs ≡ s.inputs - 0 = omega arith in
      (λ k. header_text (record { max = sym ins k + sym ands k; inputs = sym ins k; latches = 0; outputs = length os; ands = sym ands k }) ++ flat_map item_text (inputs_of 0 (e k) ++ (outputs_of os ++ gates_of (s.inputs + 1) s.pairs)))
