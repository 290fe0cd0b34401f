-- Lists of bytes by their first elements.
use Rattle.std.proofs.Common.{◌≡◌, ℕ, ◌≤◌, List, length, get_or, ap, arith}
use Rattle.aiger_check.specs.Names.{comment}
use Rattle.aiger_check.specs.Kinds.{Heading}

pub from_heading : (bs : List ℕ) → Heading bs → (4 ≤ length bs) × (get_or bs 0 0 ≡ 97) × (get_or bs 1 0 ≡ 97) × (get_or bs 2 0 ≡ 103) × (get_or bs 3 0 ≡ 32)
from_heading bs (rest, e) = (omega (arith, ap length e), ap (λ l. get_or l 0 0) e, ap (λ l. get_or l 1 0) e, ap (λ l. get_or l 2 0) e, ap (λ l. get_or l 3 0) e)

pub from_comment : (bs : List ℕ) → bs ≡ comment → (length bs ≡ 2) × (get_or bs 0 0 ≡ 99) × (get_or bs 1 0 ≡ 10)
from_comment bs e = (ap length e, ap (λ l. get_or l 0 0) e, ap (λ l. get_or l 1 0) e)
