-- The lines below a circuit file's header: what each says, and when it is good after those before it.
-- No buffer and no reader occurs: a line is good by what the lines before it say.
use Rattle.std.specs.Prelude.{◌≡◌, ℕ, ◌+◌, ◌*◌, ◌/◌, ◌%◌, ◌<◌, ◌≤◌, ◌⊎◌, List, [], ◌∷◌, length, take, codes, nat_lt, slice_index_or, if◌then◌else◌}
use Rattle.aiger_lines.specs.Forms.{Has, Lacks, form}
use Rattle.aiger_lines.specs.declared.fields.Header.{Header}
use Rattle.aiger_check.specs.declared.faults.LineFault.{LineFault}
use Rattle.aiger_check.specs.declared.faults.LineFault.TheVariants.{Form, Literal, Twice, Undefined, Full}

-- what a line says, by its literals
pub data Item : Type 0 where
  input : ℕ → Item
  output : ℕ → Item
  gate : ℕ → ℕ → ℕ → Item

abbrev pub numbers : Item → List ℕ
numbers (input v) = v ∷ []
numbers (output v) = v ∷ []
numbers (gate a b c) = a ∷ b ∷ c ∷ []

abbrev pub total : Header → ℕ
total h = h.inputs + h.outputs + h.ands

-- line k below the header (from 0) is in the item's section
abbrev pub Due : Header → ℕ → Item → Type 0
Due h k (input v) = k < h.inputs
Due h k (output v) = (h.inputs ≤ k) × (k < h.inputs + h.outputs)
Due h k (gate a b c) = h.inputs + h.outputs ≤ k

-- the byte after each number of line k
abbrev pub ends : Header → ℕ → List ℕ
ends h k = if nat_lt k (h.inputs + h.outputs) then codes "\n" else codes "  \n"

-- line k, whose bytes are bs, says i
pub record Says (h : Header) (k : ℕ) (bs : List ℕ) (i : Item) : Type 0 where
  pub due : Due h k i
  pub reads : Has (form (ends h k)) bs (numbers i)

-- a literal that a line may define, where variables go up to max
pub record Plain (max v : ℕ) : Type 0 where
  pub some : 0 < v
  pub even : v % 2 ≡ 0
  pub top : v ≤ 2 * max + 1

abbrev pub Literals : ℕ → Item → Type 0
Literals max (input v) = Plain max v
Literals max (output v) = v ≤ 2 * max + 1
Literals max (gate a b c) = Plain max a × (b ≤ 2 * max + 1) × (c ≤ 2 * max + 1)

-- the item defines variable x
abbrev pub Defines : Item → ℕ → Type 0
Defines (input v) x = v / 2 ≡ x
Defines (output v) x = ⊥
Defines (gate a b c) x = a / 2 ≡ x

-- variable x is the constant, or one of these items defines it
abbrev pub Defined : List Item → ℕ → Type 0
Defined [] x = x ≡ 0
Defined (i ∷ is) x = Defines i x ⊎ Defined is x

-- the item defines no variable of D, and its operands' variables are all in D
abbrev pub Fresh : (ℕ → Type 0) → Item → Type 0
Fresh D (input v) = D (v / 2) → ⊥
Fresh D (output v) = Unit {0}
Fresh D (gate a b c) = D (a / 2) → ⊥

abbrev pub Known : (ℕ → Type 0) → Item → Type 0
Known D (input v) = Unit {0}
Known D (output v) = Unit {0}
Known D (gate a b c) = D (b / 2) × D (c / 2)

-- where the variables of D are defined already
pub record Good (max : ℕ) (D : ℕ → Type 0) (i : Item) : Type 0 where
  pub literals : Literals max i
  pub fresh : Fresh D i
  pub known : Known D i

abbrev pub Bad : ℕ → (ℕ → Type 0) → Item → LineFault → Type 0
Bad max D i (Form e) = ⊥
Bad max D i Literal = Literals max i → ⊥
Bad max D i Twice = Literals max i × (Fresh D i → ⊥)
Bad max D i Undefined = Literals max i × Fresh D i × (Known D i → ⊥)
Bad max D i Full = ⊥

-- the first fault of line k, in the order of the causes
abbrev pub Faulty : Header → ℕ → List ℕ → (ℕ → Type 0) → LineFault → Type 0
Faulty h k bs D (Form e) = Lacks (form (ends h k)) bs e
Faulty h k bs D Literal = (i : Item) × Says h k bs i × Bad h.max D i Literal
Faulty h k bs D Twice = (i : Item) × Says h k bs i × Bad h.max D i Twice
Faulty h k bs D Undefined = (i : Item) × Says h k bs i × Bad h.max D i Undefined
Faulty h k bs D Full = ⊥

-- an item for where there is none
abbrev pub nothing : Item
nothing = output 0

-- line k says i, which is good after the items before it
pub record GoodAt (h : Header) (ls : List (List ℕ)) (k : ℕ) (before : List Item) (i : Item) : Type 0 where
  pub says : Says h k (slice_index_or ls (1 + k) []) i
  pub good : Good h.max (Defined before) i

-- the first lines below the header say these items, each good after those before it
abbrev pub Begins : Header → List (List ℕ) → List Item → Type 0
Begins h ls is = (k : ℕ) → k < length is → GoodAt h ls k (take k is) (slice_index_or is k nothing)
