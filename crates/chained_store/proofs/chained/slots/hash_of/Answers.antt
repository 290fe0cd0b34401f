use Rattle.std.proofs.Common.{◌≡◌, ℕ, ◌+◌, ◌*◌, ◌/◌, ◌%◌, ap, arith}
use Rattle.std.proofs.lemmas.Grind.{common_steps}
use Rattle.std.specs.Int.Bits.{bit_or, bit_xor}
use Rattle.chained_store.specs.Chains.{hash, spread}
use Rattle.chained_store.proofs.chained.slots.hash_of.Goals as goal

pub returns : goal.returns
unfolding hash spread
returns c =
    let edges : bit_or (c.from.result * 4294967296 % 18446744073709551616) c.from-2.result ≡ c.args.pair.larger.0 * 4294967296 + c.args.pair.smaller.0 = grind (arith, common_steps) in
    (ap (λ (n : ℕ). spread (bit_xor (spread n) (spread n / 4294967296)) / 4294967296) edges, omega arith)
