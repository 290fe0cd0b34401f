use Rattle.std.proofs.Common.{ℕ, List, Some, sym, subst, refl}
use Rattle.history_model.specs.declared.request.Request.TheVariants.{Read}
use Rattle.aiger_room.specs.Rooms.{RoomFor}
use Rattle.request_scripts.specs.declared.step.Step.{Step}
use Rattle.request_scripts.specs.Steps.{Requests}
use Rattle.request_scripts.proofs.step.Step.request.Goals as goal

pub returns-in-File : goal.returns-in-File
returns-in-File g c =
    let room = c.of-room.result in
    let For : List ℕ → Type 0 = λ bytes. RoomFor bytes room in
    let Makes : Step → Type 0 = λ s. Requests {W = g.row.W.Denot} s c.args.places (Some (Read c.as_slice-in-File.result room.places room.outputs)) in
    subst Makes (sym c.in-File.is) (c.as_slice-in-File.result, room, c.as_slice-in-File.ensures.value, subst For c.as_slice.ensures.value c.of-room.ensures.answer, refl)
