-- Boolean algebras whose values are rows of bits: the block, and two such values side by side.
-- Any bits are the rows of a value, and of one only, so that rows leave nothing open.
use Rattle.std.specs.Prelude.{◌≡◌, ℕ, ◌+◌, ◌-◌, ◌<◌, ◌≤◌, Bool, nat_lt, if◌then◌else◌}
use Rattle.std.proofs.Common.{sym, ap, ap₂, ◌∙◌, ⊎_elim, arith}
use Rattle.std.proofs.lemmas.Bool.{lt-ltb, le-ltb, cases_lt, cond-true, cond-false}
use Rattle.values.specs.Algebra.{BooleanAlgebra}
use Rattle.values.specs.Homs.{Hom}
use Rattle.values.specs.Bit.{bit_algebra}
use Rattle.values.specs.Blocks.{block_algebra, row, row_keeps, block_of, same_rows}
use Rattle.values.specs.Digits.{digit_pack}
use Rattle.values.specs.Products.{beside, product}
use Rattle.values.specs.declared.block.Block.{Block}
use Rattle.values.specs.declared.cofactors.Cofactors.{Cofactors}

-- w rows of bits: each row is a homomorphism to the bit, any bits are the rows of a value, and of one only
pub record Rows {V : Type 0} (k : BooleanAlgebra V) (w : ℕ) : Type 0 where
  pub row : ℕ → V → Bool
  pub make : (ℕ → Bool) → V
  pub row_hom : (i : ℕ) → i < w → Hom k bit_algebra (row i)
  pub row_make : (f : ℕ → Bool) (i : ℕ) → i < w → row i (make f) ≡ f i
  pub same : (a b : V) → ((i : ℕ) → i < w → row i a ≡ row i b) → a ≡ b

abbrev pub block_rows : Rows block_algebra 64
block_rows = record { row = row; make = block_of; row_hom = row_keeps; row_make = λ f i h. digit_pack f 64 i h; same = same_rows }

module _ {V : Type 0} {k : BooleanAlgebra V} {w : ℕ} (r : Rows k w) where
  abbrev double_row : ℕ → Cofactors V → Bool
  double_row i a = if nat_lt i w then r.row i a.low else r.row (i - w) a.high

  abbrev double_make : (ℕ → Bool) → Cofactors V
  double_make f = beside (r.make f) (r.make (λ i. f (w + i)))

  row_low : (i : ℕ) → i < w → (a : Cofactors V) → double_row i a ≡ r.row i a.low
  row_low i h a = cond-true (nat_lt i w) _ _ (lt-ltb i w h)

  row_high : (i : ℕ) → w ≤ i → (a : Cofactors V) → double_row i a ≡ r.row (i - w) a.high
  row_high i h a = cond-false (nat_lt i w) _ _ (le-ltb i w h)

  pub double_hom : (i : ℕ) → i < w + w → Hom (product k) bit_algebra (double_row i)
  double_hom i h =
      ⊎_elim
      (λ (l : i < w). let m = r.row_hom i l in record {
        at_bottom = row_low i l _ ∙ m.at_bottom;
        at_not = λ a. row_low i l _ ∙ m.at_not _ ∙ ap bit_algebra.not (sym (row_low i l a));
        at_and = λ a b. row_low i l _ ∙ m.at_and _ _ ∙ ap₂ bit_algebra.and (sym (row_low i l a)) (sym (row_low i l b));
      })
      (λ (l : w ≤ i). let m = r.row_hom (i - w) (omega arith) in record {
        at_bottom = row_high i l _ ∙ m.at_bottom;
        at_not = λ a. row_high i l _ ∙ m.at_not _ ∙ ap bit_algebra.not (sym (row_high i l a));
        at_and = λ a b. row_high i l _ ∙ m.at_and _ _ ∙ ap₂ bit_algebra.and (sym (row_high i l a)) (sym (row_high i l b));
      })
      (cases_lt i w)

  pub double_row_make : (f : ℕ → Bool) (i : ℕ) → i < w + w → double_row i (double_make f) ≡ f i
  double_row_make f i h =
      ⊎_elim
      (λ (l : i < w). row_low i l _ ∙ r.row_make f i l)
      (λ (l : w ≤ i). let e : w + (i - w) ≡ i = omega arith in row_high i l _ ∙ r.row_make (λ j. f (w + j)) (i - w) (omega arith) ∙ ap f e)
      (cases_lt i w)

  pub double_same : (a b : Cofactors V) → ((i : ℕ) → i < w + w → double_row i a ≡ double_row i b) → a ≡ b
  double_same a b e =
      ap₂ beside
      (r.same _ _ (λ i l. sym (row_low i l a) ∙ e i (omega arith) ∙ row_low i l b))
      (r.same _ _ (λ i l.
      let m : w + i - w ≡ i = omega arith in
      ap (λ j. r.row j a.high) (sym m) ∙ sym (row_high (w + i) (omega arith) a) ∙ e (w + i) (omega arith) ∙ row_high (w + i) (omega arith) b
      ∙ ap (λ j. r.row j b.high) m))

  -- two values side by side have twice the rows
  abbrev pub double : Rows (product k) (w + w)
  double = record { row = double_row; make = double_make; row_hom = double_hom; row_make = double_row_make; same = double_same }

-- the table: 256 rows
abbrev pub table_algebra : BooleanAlgebra (Cofactors (Cofactors Block))
table_algebra = product (product block_algebra)

abbrev pub table_rows : Rows table_algebra 256
table_rows = double (double block_rows)
