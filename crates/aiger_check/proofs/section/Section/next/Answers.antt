use Rattle.std.proofs.Common.{◌+◌, subst, arith}
use Rattle.aiger_check.specs.Sections.{At}
use Rattle.aiger_check.proofs.section.Section.next.Goals as goal

pub returns-in-Inputs : goal.returns-in-Inputs
returns-in-Inputs c k at =
    let a = subst (At c.args.header k) c.in-Inputs.is at in
    c.skip_empty.ensures (k + 1) (omega (arith, a.0, a.1, c.saturating_sub.ensures))

pub returns-in-Outputs : goal.returns-in-Outputs
returns-in-Outputs c k at =
    let a = subst (At c.args.header k) c.in-Outputs.is at in
    c.skip_empty-in-Outputs.ensures (k + 1) (omega (arith, a.0, a.1, c.saturating_sub-in-Outputs.ensures), omega (arith, a.2))

pub returns-in-Gates : goal.returns-in-Gates
returns-in-Gates c k at =
    let a = subst (At c.args.header k) c.in-Gates.is at in
    c.skip_empty-in-Gates.ensures (k + 1) (omega (arith, a.0, a.1, c.saturating_sub-in-Gates.ensures), omega (arith, a.2))
