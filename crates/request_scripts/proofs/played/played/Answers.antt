use Rattle.std.proofs.Common.{rules, ◌≡◌, ℕ, min, length, ap, ◌∙◌, subst, IfOk, vec_items, arith}
use Rattle.values.specs.Bit.{bit_algebra}
use Rattle.chained_store.specs.Chains.{capacity}
use Rattle.chained_store.specs.Chained.{chained_limit}
use Rattle.request_scripts.specs.Scripts.{Played}
use Rattle.request_scripts.proofs.played.played.Goals as goal

pub returns : goal.returns
returns c =
    let script = c.args.script.now in
    let records : length c.as_mut_slice.result.now ≡ min script.opening.records 1000000 = search rules in
    let heads : length c.as_mut_slice-2.result.now ≡ 65536 = search rules in
    let room : capacity (length c.as_mut_slice.result.now) (length c.as_mut_slice-2.result.now) ≡ min script.opening.records 1000000 = ap (capacity (length c.as_mut_slice.result.now)) heads ∙ omega (arith, records) in
    let P : ℕ → ℕ → Type 0 = λ l e. IfOk c.run.result (λ v. Played bit_algebra bit_algebra script.opening (vec_items script.steps) l e (vec_items v)) in
    record { text = subst (λ l. P l 4294967295) (c.new.ensures.limit ∙ room) (subst (P (chained_limit c.new.result)) c.new.ensures.edges c.run.ensures.text) }
