-- A comparison by blocks of 64 assignments.
use Rattle.std.proofs.Common.{◌≡◌, ℕ, ◌+◌, ◌-◌, ◌*◌, ◌/◌, ◌%◌, ◌^◌, ◌<◌, ◌≤◌, min, Bool, true, ◌⊎◌, List, ◌++◌, map, length, take, drop, sym, ap, ◌∙◌, subst, ap₂, inl, inr, arith, pow-add}
use mathlib.Core.Bool.{beq}
use Rattle.std.specs.List.{range_with_len}
use Rattle.std.proofs.lemmas.Nat.{pow_below, one_shl}
use Rattle.std.proofs.lemmas.List.FromFn.{length-map-range_with_len}
use Rattle.std.proofs.lemmas.List.{take_at}
use Rattle.std.proofs.lemmas.Bool.{cases_lt, cond-true, and_from, eq-eqb, le-leb}
use Rattle.values.specs.declared.block.Block.{Block}
use Rattle.values.specs.Blocks.{block_algebra, row}
use Rattle.values.specs.Columns.{block_column}
use Rattle.values.specs.Rows.{block_rows}
use Rattle.rules.specs.declared.edge.Edge.{Edge}
use Rattle.rules.specs.Meaning.{means}
use Rattle.graph_model.specs.Graphs.{State, nodes, at}
use Rattle.graph_model.proofs.Requests.{values_length}
use Rattle.questions.specs.Assignments.{assignment, edge_bit}
use Rattle.questions.specs.Comparison.{agree, block_values}
use Rattle.questions.specs.Evaluation.{suits, evaluated}
use Rattle.questions.proofs.Homs.{row-meaning}
use Rattle.questions.proofs.Tabled.{assigned_columns}

-- ---- the number of assignments, and the loops over them
pub total_is : (n : ℕ) → n ≤ 16 → (1 * 2 ^ n) % 2 ^ 32 ≡ 2 ^ n
total_is n h = one_shl n 32 (omega arith)

-- they fit in one block, or fill blocks
pub whole : (n : ℕ) → (2 ^ n < 64) ⊎ (2 ^ n % 64 ≡ 0)
whole n = go (cases_lt n 6)
  where
    go : (n < 6) ⊎ (6 ≤ n) → (2 ^ n < 64) ⊎ (2 ^ n % 64 ≡ 0)
    go (inl h) = inl (pow_below n 6 h)
    go (inr h) =
        let e : 6 + (n - 6) ≡ n = omega arith in
        let p : 2 ^ n ≡ 64 * 2 ^ (n - 6) = ap (λ m. 2 ^ m) (sym e) ∙ pow-add 2 6 (n - 6) in
        inr (omega arith)

pub code_whole : (n : ℕ) → n ≤ 16 → ((1 * 2 ^ n) % 2 ^ 32 < 64) ⊎ ((1 * 2 ^ n) % 2 ^ 32 % 64 ≡ 0)
code_whole n h = subst (λ m. (m < 64) ⊎ (m % 64 ≡ 0)) (sym (total_is n h)) (whole n)

-- T assignments, c blocks, w bits of each
pub within : (T b i c w : ℕ) → (T < 64) ⊎ (T % 64 ≡ 0) → c ≡ T / 64 + min 1 (T % 64) → w ≡ min T 64 → b < c → i < w → 64 * b + i < T
within T b i c w (inl h) ec ew hb hi = omega arith
within T b i c w (inr h) ec ew hb hi = omega arith

pub last_is : (T b c : ℕ) → (T < 64) ⊎ (T % 64 ≡ 0) → 0 < T → c ≡ T / 64 + min 1 (T % 64) → b ≡ c → (0 < b) × (b - 1 ≡ (T - 1) / 64)
last_is T b c (inl h) p ec eb = (omega arith, omega arith)
last_is T b c (inr h) p ec eb = (omega arith, omega arith)

-- ---- one block
module _ (s : State) (m : ℕ) (em : m ≡ nodes s) where
  -- bit i of what was read over block b
  pub read_bit : (b i : ℕ) (bs rest : List Block) (e : Edge) (v : Block) → bs ≡ block_values s b ++ rest → v ≡ means block_algebra (at block_algebra (take m bs)) e → i < 64
      → row i v ≡ edge_bit s (64 * b + i) e
  read_bit b i bs rest e v eb ev l =
      let cut : take m bs ≡ block_values s b = ap (take m) eb ∙ take_at (block_values s b) rest m (values_length block_algebra _ s ∙ sym em) in
      ap (row i) (ev ∙ ap (λ ws. means block_algebra (at block_algebra ws) e) cut) ∙ row-meaning block_rows (λ i. assignment (64 * b + i)) s e i l

  -- the test at bit i of block b is the test at assignment 64 * b + i
  pub test_is : (b i : ℕ) (bs rest : List Block) (x y : Edge) (u v : Block) (p q : Bool) → bs ≡ block_values s b ++ rest
      → u ≡ means block_algebra (at block_algebra (take m bs)) x → v ≡ means block_algebra (at block_algebra (take m bs)) y → p ≡ row i u → q ≡ row i v → i < 64
      → beq p q ≡ agree s x y (64 * b + i)
  test_is b i bs rest x y u v p q eb eu ev ep eq l =
      ap₂ beq (ep ∙ read_bit b i bs rest x u eb eu l) (eq ∙ read_bit b i bs rest y v eb ev l)

-- ---- one block, evaluated
pub block_suits : (s : State) (b : ℕ) (ins old : List Block) → ins ≡ map (block_column b) (range_with_len 0 s.inputs) → nodes s ≤ length old → suits s (length ins) (length old) ≡ true
block_suits s b ins old e h = and_from _ _ (eq-eqb _ _ (ap length e ∙ length-map-range_with_len (block_column b) 0 s.inputs)) (le-leb _ _ h)

pub block_filled : (s : State) (b : ℕ) (ins old last : List Block) → ins ≡ map (block_column b) (range_with_len 0 s.inputs) → nodes s ≤ length old
    → last ≡ evaluated block_algebra s ins old → last ≡ block_values s b ++ drop (nodes s) old
block_filled s b ins old last e h el =
    el ∙ cond-true _ _ _ (block_suits s b ins old e h) ∙ ap (λ vs. vs ++ drop (nodes s) old) (assigned_columns (block_column b) block_algebra s ins e)
