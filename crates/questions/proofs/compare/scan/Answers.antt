use Rattle.std.proofs.Common.{◌≡◌, ℕ, ◌+◌, ◌*◌, ◌/◌, ◌%◌, ◌^◌, ◌≤◌, min, true, false, ◌++◌, take, drop, sym, ap, ◌∙◌, ap₂, ⊎_elim, arith, pow_pos, rules, Some}
use mathlib.Core.Bool.{beq}
use Rattle.std.proofs.lemmas.Bool.{not-true, not-false, cases_lt}
use Rattle.values.specs.Blocks.{block_algebra}
use Rattle.rules.specs.Meaning.{means}
use Rattle.graph_model.specs.Graphs.{nodes, at}
use Rattle.graph.specs.States.{state}
use Rattle.questions.specs.Comparison.{agree, comparison, block_values, last_block}
use Rattle.questions.proofs.Comparisons.{total_is, whole, code_whole, within, last_is, test_is}
use Rattle.questions.proofs.FirstFailing.{none_failing, is_failing, comparison_compares}
use Rattle.questions.proofs.compare.scan.Goals.{After-inputs-total, After-bit-in-bits}
use Rattle.questions.proofs.compare.scan.Goals as goal

few : (g : _) (c : After-inputs-total g) → c.inputs-total.result ≤ 16
few g c = omega (arith, c.requires.limit, c.inputs-total.ensures.answer)

total : (g : _) (c : After-inputs-total g) → (1 * 2 ^ c.inputs-total.result) % 2 ^ 32 ≡ 2 ^ (state c.args.graph.now).inputs
total g c = total_is c.inputs-total.result (few g c) ∙ ap (λ m. 2 ^ m) c.inputs-total.ensures.answer

-- the two bits are compared under assignment 64 * b + i
tested : (g : _) (c : After-bit-in-bits g) → beq c.bit.result c.bit-in-bits.result ≡ agree (state c.args.graph.now) c.args.x c.args.y (64 * c.search.b + c.bits.i)
tested g c =
    let s = state c.args.graph.now in
    let m = c.nodes-nodes.result in
    let vs = take m c.fill_block.new.blocks in
    let left : c.edge_value-left.result ≡ means block_algebra (at block_algebra vs) c.args.x = search rules in
    let right : c.edge_value-right.result ≡ means block_algebra (at block_algebra vs) c.args.y = search rules in
    test_is s m (omega (arith, c.nodes-nodes.ensures.answer)) c.search.b c.bits.i c.fill_block.new.blocks _ c.args.x c.args.y _ _ _ _
    c.fill_block.ensures left right c.bit.ensures c.bit-in-bits.ensures (omega (arith, c.min-width.ensures, c.bits-test.true))

pub bits-preserved : goal.bits-preserved
bits-preserved g c =
    let k = 64 * c.search.b + c.bits.i in
    let test = agree (state c.args.graph.now) c.args.x c.args.y in
    let seen : beq c.bit.result c.bit-in-bits.result ≡ true = search (rules, not-false) in
    let here : test k ≡ true = sym (tested g (goal.at.bits-preserved g c).After-bit-in-bits) ∙ seen in
    (c.bits.invariant.0, λ j h t. ⊎_elim (λ l. c.bits.invariant.1 j l t) (λ (l : k ≤ j). let e : k ≡ j = omega arith in ap test (sym e) ∙ here) (cases_lt j k))

pub returns-after-search : goal.returns-after-search
returns-after-search g c =
    let s = state c.args.graph.now in
    let T = 2 ^ s.inputs in
    let t = total g (goal.at.returns-after-search g c).After-inputs-total in
    let test = agree s c.args.x c.args.y in
    let all : c.search.b ≡ c.div_ceil-count.result = omega (arith, c.search-test.false, c.search.auto.b-end) in
    let last = last_is T c.search.b c.div_ceil-count.result (whole s.inputs) (pow_pos s.inputs)
    (c.div_ceil-count.ensures ∙ ap (λ m. m / 64 + min 1 (m % 64)) t) all in
    let nodes_at = λ (m : ℕ). block_values s m ++ drop (nodes s) c.args.blocks.now in
    let answer =
    c.search.invariant.0 ∙ sym (none_failing test 0 T (λ j _ l. c.search.invariant.1 j (omega (arith, c.div_ceil-count.ensures, all, t, l)) (omega (arith, t, l)))) in
    record {
      answer = answer;
      blocks = c.search.invariant.3 last.0 ∙ ap nodes_at (last.1 ∙ ap (last_block s) (sym c.search.invariant.0));
      cases = comparison_compares s c.args.x c.args.y _ answer;
    }

pub returns-then-bit : goal.returns-then-bit
returns-then-bit g c =
    let at = goal.at.returns-then-bit g c in
    let s = state c.args.graph.now in
    let k = 64 * c.search.b + c.bits.i in
    let T = 2 ^ s.inputs in
    let t = total g at.After-inputs-total in
    let test = agree s c.args.x c.args.y in
    let seen : beq c.bit.result c.bit-in-bits.result ≡ false = search (rules, not-true) in
    let here : test k ≡ false = sym (tested g at.After-bit-in-bits) ∙ seen in
    let below = within _ c.search.b c.bits.i c.div_ceil-count.result c.min-width.result (code_whole c.inputs-total.result (few g at.After-inputs-total))
    c.div_ceil-count.ensures c.min-width.ensures c.search-test.true c.bits-test.true in
    let d : k / 64 ≡ c.search.b = omega (arith, c.min-width.ensures, c.bits-test.true) in
    let answer : Some k ≡ comparison s c.args.x c.args.y =
    sym (is_failing test 0 T k (omega arith) (omega (arith, below, t)) here (λ j _ l. c.bits.invariant.1 j l (omega (arith, below)))) in
    record {
      answer = search rules;
      blocks = c.fill_block.ensures ∙ ap₂ (λ m ws. block_values s m ++ ws) (sym d) c.search.invariant.2;
      cases = comparison_compares s c.args.x c.args.y (Some k) answer;
    }
