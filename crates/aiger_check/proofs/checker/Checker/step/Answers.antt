use Rattle.std.proofs.Common.{⊎_elim, arith}
use Rattle.std.proofs.lemmas.Result.{err_from_is_err_and}
use Rattle.aiger_check.specs.Kinds.{bytes}
use Rattle.aiger_check.proofs.Bytes.{from_comment}
use Rattle.aiger_check.proofs.Steps.{input_bad, output_bad, gate_bad, input_good, output_good, gate_good, no_name_here, header_letter, other_bytes}
use Rattle.aiger_check.proofs.checker.Checker.step.Goals as goal

pub returns-in_err-v-in-Inputs-Numbers-clause-answer : goal.returns-in_err-v-in-Inputs-Numbers-clause-answer
returns-in_err-v-in-Inputs-Numbers-clause-answer c =
    let p = err_from_is_err_and c.from_residual.result c.from_residual.ensures.1 in
    rw (p.1, p.2) (λ k at. input_bad c.args.self.now.header c.args.self.now.section c.args.line c.args.self.now.map.now c.args.self.now.outputs.now k at _ c.in-Inputs-Numbers.is-1 _ c.in-Inputs-Numbers.is-0 _ c.args.self.now.section c.in_err-v-in-Inputs-Numbers.ensures)

pub returns-in_err-v-in-Outputs-Numbers-clause-answer : goal.returns-in_err-v-in-Outputs-Numbers-clause-answer
returns-in_err-v-in-Outputs-Numbers-clause-answer c =
    let p = err_from_is_err_and c.from_residual-in_err-v-in-Outputs-Numbers.result c.from_residual-in_err-v-in-Outputs-Numbers.ensures.1 in
    rw (p.1, p.2) (λ k at. output_bad c.args.self.now.header c.args.self.now.section c.args.line c.args.self.now.map.now c.args.self.now.outputs.now k at _ c.in-Outputs-Numbers.is-1 _ c.in-Outputs-Numbers.is-0 _ c.args.self.now.section c.in_err-v-in-Outputs-Numbers.ensures)

pub returns-in_err-gate-in-Gates-Numbers-clause-answer : goal.returns-in_err-gate-in-Gates-Numbers-clause-answer
returns-in_err-gate-in-Gates-Numbers-clause-answer c =
    let p = err_from_is_err_and c.from_residual-in_err-gate-in-Gates-Numbers.result c.from_residual-in_err-gate-in-Gates-Numbers.ensures.1 in
    rw (p.1, p.2) (λ k at. gate_bad c.args.self.now.header c.args.self.now.section c.args.line c.args.self.now.map.now c.args.self.now.outputs.now k at _ c.in-Gates-Numbers.is-1 _ c.in-Gates-Numbers.is-0 _ c.args.self.now.section c.in_err-gate-in-Gates-Numbers.ensures)

pub returns-in_ok-v-in-Inputs-Numbers-clause-answer : goal.returns-in_ok-v-in-Inputs-Numbers-clause-answer
returns-in_ok-v-in-Inputs-Numbers-clause-answer c k at =
    input_good c.args.self.now.header c.args.self.now.section c.args.line c.args.self.now.map.now c.args.self.now.outputs.now k at _ c.in-Inputs-Numbers.is-1 _ c.in-Inputs-Numbers.is-0 _ _ c.in_ok-v-in-Inputs-Numbers.ensures (c.next-self.ensures k at)

pub returns-in_ok-v-in-Outputs-Numbers-clause-answer : goal.returns-in_ok-v-in-Outputs-Numbers-clause-answer
returns-in_ok-v-in-Outputs-Numbers-clause-answer c k at =
    output_good c.args.self.now.header c.args.self.now.section c.args.line c.args.self.now.map.now c.args.self.now.outputs.now k at _ c.in-Outputs-Numbers.is-1 _ c.in-Outputs-Numbers.is-0 _ _ c.in_ok-v-in-Outputs-Numbers.ensures (c.next-self-in-Outputs-Numbers.ensures k at)

pub returns-in_ok-gate-in-Gates-Numbers-clause-answer : goal.returns-in_ok-gate-in-Gates-Numbers-clause-answer
returns-in_ok-gate-in-Gates-Numbers-clause-answer c k at =
    gate_good c.args.self.now.header c.args.self.now.section c.args.line c.args.self.now.map.now c.args.self.now.outputs.now k at _ c.in-Gates-Numbers.is-1 _ c.in-Gates-Numbers.is-0 _ _ c.in_ok-gate-in-Gates-Numbers.ensures (c.next-self-in-Gates-Numbers.ensures k at)

pub returns-in-Names-Header-clause-answer : goal.returns-in-Names-Header-clause-answer
returns-in-Names-Header-clause-answer c k at =
    let f = header_letter c.args.line _ c.in-Names-Header.is-1 c.requires.kind in
    no_name_here c.args.self.now.header c.args.self.now.section c.args.line c.args.self.now.map.now c.args.self.now.outputs.now k at c.args.self.now.section c.in-Names-Header.is-0 (λ n. ⊎_elim (λ e. omega (arith, e, f.1)) (λ e. omega (arith, e, f.1)) n) (λ e. omega (arith, f.1, (from_comment (bytes c.args.line) e).1))

pub returns-in-Names-Numbers-clause-answer : goal.returns-in-Names-Numbers-clause-answer
returns-in-Names-Numbers-clause-answer c k at =
    let f = other_bytes c.args.line _ c.in-Names-Numbers.is-1 c.requires.kind in
    no_name_here c.args.self.now.header c.args.self.now.section c.args.line c.args.self.now.map.now c.args.self.now.outputs.now k at c.args.self.now.section c.in-Names-Numbers.is-0 f.0 f.1
