-- The chain of a pair.
use Rattle.std.proofs.Common.{◌≡◌, ℕ, ◌*◌, ◌/◌, ◌<◌, true, mul-lt-mul_of_pos_right, arith}
use Rattle.std.proofs.lemmas.Bool.{and_parts, eqb-true}
use Rattle.rules.specs.declared.pair.Pair.{Pair}
use Rattle.stores.specs.Stored.{same_pair}
use Rattle.chained_store.specs.Chains.{hash, slot}

-- a number below 2^32, scaled to the numbers below n
pub scaled_below : (h n : ℕ) → h < 4294967296 → 0 < n → h * n / 4294967296 < n
scaled_below h n l pos = let less : h * n < 4294967296 * n = mul-lt-mul_of_pos_right l pos in omega arith

-- pairs with the same edges join the same chain
pub same_slot : (m : ℕ) (q p : Pair) → same_pair q p ≡ true → slot m q ≡ slot m p
unfolding slot hash
same_slot m q p h =
    let parts = and_parts _ _ h in
    let e = eqb-true q.larger.0 p.larger.0 parts.0 in
    let f = eqb-true q.smaller.0 p.smaller.0 parts.1 in
    cc (e, f)
