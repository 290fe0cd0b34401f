-- A store with a power of two of heads that is large enough for its records has room for all of them.
use Rattle.std.proofs.Common.{◌≡◌, ℕ, List, ◌/◌, ◌^◌, ◌<◌, ◌≤◌, min, ap, ◌∙◌, ⊎_elim, arith, pow_mono}
use Rattle.std.specs.Int.{IsNextPowerOfTwo}
use Rattle.std.proofs.lemmas.Bool.{cond-true, and_from, le-leb, cases_lt}
use Rattle.aiger_lines.specs.declared.fields.Header.{Header}
use Rattle.aiger_check.specs.Files.{HeaderAt}
use Rattle.aiger_check.specs.Text.{lines}
use Rattle.aiger_room.specs.declared.room.Room.{Room}
use Rattle.aiger_room.specs.Rooms.{room_of, no_room, RoomFor}
use Rattle.chained_store.specs.Chains.{capacity}

-- a power of two that is the next one from a number up to 65,536 on is no larger
power_within : (k : ℕ) → 2 ^ k / 2 < 65536 → 2 ^ k ≤ 65536
power_within k h =
    ⊎_elim
    (λ (l : k < 17). let up : k ≤ 16 = omega arith in let p : 2 ^ k ≤ 2 ^ 16 = pow_mono up in omega (arith, p))
    (λ (l : 17 ≤ k). let p : 2 ^ 17 ≤ 2 ^ k = pow_mono l in absurd (omega (arith, p)))
    (cases_lt k 17)

pub all_kept : (n records heads : ℕ) → n ≤ 1000000 → records ≡ n → IsNextPowerOfTwo (min n 65536) heads → capacity records heads ≡ n
all_kept n records heads few e h =
    let k = h.0.0 in
    let z : 0 ≤ k = omega arith in
    let some : 2 ^ 0 ≤ 2 ^ k = pow_mono z in
    let many : 2 ^ k ≤ 65536 = power_within k (omega (arith, h.2, h.0.1, ap (λ p. p / 2) h.0.1)) in
    cond-true _ _ _ (and_from _ _ (le-leb 1 heads (omega (arith, some, h.0.1))) (le-leb heads 65536 (omega (arith, many, h.0.1)))) ∙ omega arith

pub few_gates : (bytes : List ℕ) (r : Room) → RoomFor bytes r → r.gates ≤ 1000000
few_gates bytes r named =
    ⊎_elim
    (λ (e : (h : Header) × HeaderAt (lines bytes) h × (r ≡ room_of h)). omega (arith, ap (λ (z : Room). z.gates) e.2))
    (λ (e : ((h : Header) → HeaderAt (lines bytes) h → ⊥) × (r ≡ no_room)). omega (arith, ap (λ (z : Room). z.gates) e.1))
    named
