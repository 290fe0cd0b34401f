use Rattle.std.proofs.Common.{rules, ◌≡◌, ℕ, ◌≤◌, length, ap, ◌∙◌, subst}
use Rattle.rules.specs.RuleLists.{by_rules}
use Rattle.rulesets.specs.Levels.{level_rules}
use Rattle.rulesets.specs.declared.levels.OptLevel.TheVariants.{Three}
use Rattle.chained_store.specs.Chains.{capacity}
use Rattle.chained_store.specs.Chained.{chained_limit}
use Rattle.simulation.specs.Simulations.{Simulates}
use Rattle.simulation.proofs.Simulating.{memory}
use Rattle.simulation.proofs.Heads.{all_kept, few_gates}
use Rattle.simulation.proofs.sized.simulate_sized.Goals as goal

pub returns-in_err-records : goal.returns-in_err-records
returns-in_err-records c = (c.of-count.result, c.of-count.ensures.answer, memory _ _ _ _ _ c.in_err-records.field-0.0 _ (search rules))

pub returns-in_err-heads : goal.returns-in_err-heads
returns-in_err-heads c = (c.of-count.result, c.of-count.ensures.answer, memory _ _ _ _ _ c.in_err-heads.field-0.0 _ (search rules))

pub returns : goal.returns
returns c =
    let n = c.of-count.result.gates in
    let records : length c.as_mut_slice.result.now ≡ n = search rules in
    let heads : length c.as_mut_slice-2.result.now ≡ c.head_count.result = search rules in
    let few : n ≤ 1000000 = few_gates c.args.circuit.now c.of-count.result c.of-count.ensures.answer in
    let room : capacity (length c.as_mut_slice.result.now) (length c.as_mut_slice-2.result.now) ≡ n = ap (capacity (length c.as_mut_slice.result.now)) heads ∙ all_kept n _ c.head_count.result few records c.head_count.ensures in
    let L : ℕ → Type 0 = λ z. Simulates (by_rules (level_rules Three)) c.args.circuit.now c.args.frames.now z 4294967295 c.simulate.result in
    let E : ℕ → Type 0 = λ z. Simulates (by_rules (level_rules Three)) c.args.circuit.now c.args.frames.now (chained_limit c.new.result) z c.simulate.result in
    (c.of-count.result, c.of-count.ensures.answer, subst L (c.new.ensures.limit ∙ room) (subst E c.new.ensures.edges c.simulate.ensures))
