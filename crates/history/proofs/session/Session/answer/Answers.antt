use Rattle.history_model.specs.Histories.{asked, operated}
use Rattle.history.proofs.Running.{asked_as, saved_as, made_to}
use Rattle.history.proofs.session.Session.answer.Goals as goal

pub returns-in-And-clause-cases : goal.returns-in-And-clause-cases
returns-in-And-clause-cases g c = asked_as c.in-And.is (asked c.and.ensures.answer c.and.ensures.graph)

pub returns-in-Apply-clause-cases : goal.returns-in-Apply-clause-cases
returns-in-Apply-clause-cases g c = asked_as c.in-Apply.is (operated c.apply.ensures.answer c.apply.ensures.graph)

pub returns-in-Write-clause-cases : goal.returns-in-Write-clause-cases
returns-in-Write-clause-cases g c = made_to c.write.result (λ a h. saved_as c.in-Write.is h) c.write.ensures
