use Rattle.std.proofs.Common.{refl, sym, Some, ap, ◌∙◌, subst}
use Rattle.replay.specs.Steps.{StepFor}
use Rattle.request_scripts.specs.declared.step.Step.TheVariants.{File}
use Rattle.replay.proofs.script.step.Goals as goal

pub returns-in_ok-file_bytes-in-Some-Read : goal.returns-in_ok-file_bytes-in-Some-Read
returns-in_ok-file_bytes-in-Some-Read c = subst (λ l. StepFor c.args.number l (File c.in_ok-file_bytes-in-Some-Read.field-0)) (sym (c.in-Some-Read.is ∙ ap Some c.in-Some-Read.field-0-is)) (c.in_ok-file_bytes-in-Some-Read.field-0, refl)
