use Rattle.history_model.specs.Histories.{shown}
use Rattle.history.proofs.session.Session.list_pairs.Goals as goal

pub returns : goal.returns
returns g c = λ os. shown c.in_ok-stored_pairs.ensures
