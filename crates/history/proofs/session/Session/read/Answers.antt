use Rattle.std.proofs.Common.{List, vec_items, ap, ◌∙◌, subst, arith}
use Rattle.rules.specs.declared.edge.Edge.{Edge}
use Rattle.graph.specs.States.{state}
use Rattle.history_model.specs.Histories.{LastOutputs}
use Rattle.history.proofs.Running.{loaded_as, refilled, reads_headed}
use Rattle.history.proofs.session.Session.read.Goals as goal

pub returns-clause-cases : goal.returns-clause-cases
returns-clause-cases g c =
    let noted = c.in_ok-note_outputs.ensures in
    let answer = c.read_circuit-added.ensures.answer in
    let map = refilled c.in_ok-map.map.len c.read_circuit-added.new.map c.in_ok-map.map.items (omega (arith, c.read_circuit-added.auto.map, c.as_mut_slice.ensures.len)) in
    let found = refilled c.in_ok-found.found.len c.read_circuit-added.new.outputs c.in_ok-found.found.items (omega (arith, c.read_circuit-added.auto.outputs, c.as_mut_slice-2.ensures.len)) in
    let P : List Edge → Type 0 = λ os. LastOutputs c.args.bytes.now c.read_circuit-added.result os (vec_items c.args.self.now.last) (vec_items c.note_outputs.new.self.last) in
    loaded_as c.args.bytes c.args.places c.args.outputs _ _ _ _ _ _ _ (c.as_mut_slice.ensures.value ∙ c.in_ok-map.ensures) (c.as_mut_slice-2.ensures.value ∙ c.in_ok-found.ensures)
    answer map found (ap state noted.graph)
    (subst P (c.as_slice.ensures.value ∙ found) (noted.last (reads_headed _ _ _ _ _ _ _ _ c.read_circuit-added.result answer)))
