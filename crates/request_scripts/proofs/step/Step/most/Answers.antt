use Rattle.std.proofs.Common.{ℕ, List, sym, subst, refl}
use Rattle.aiger_room.specs.Rooms.{RoomFor}
use Rattle.request_scripts.specs.declared.step.Step.{Step}
use Rattle.request_scripts.specs.Steps.{Adds}
use Rattle.request_scripts.proofs.step.Step.most.Goals as goal

pub returns-in-File : goal.returns-in-File
returns-in-File c =
    let room = c.of.result in
    let For : List ℕ → Type 0 = λ bytes. RoomFor bytes room in
    let Most : Step → Type 0 = λ s. Adds s room.gates in
    subst Most (sym c.in-File.is) (room, subst For c.as_slice.ensures.value c.of.ensures.answer, refl)
