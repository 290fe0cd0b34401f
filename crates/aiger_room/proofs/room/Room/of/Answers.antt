use Rattle.std.proofs.Common.{rules}
use Rattle.aiger_room.proofs.Rooms.{least}
use Rattle.aiger_room.proofs.room.Room.of.Goals as goal

pub returns-clause-answer : goal.returns-clause-answer
returns-clause-answer c = search rules

pub returns-clause-laws : goal.returns-clause-laws
returns-clause-laws c = least _ _ (returns-clause-answer c)
