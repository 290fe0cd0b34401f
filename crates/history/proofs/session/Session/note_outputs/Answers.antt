use Rattle.std.proofs.Common.{◌≡◌, min, length, take, vec_items, sym, ap, ◌∙◌, arith}
use Rattle.history.proofs.Running.{take_min, outputs_unheaded, outputs_change}
use Rattle.history.proofs.session.Session.note_outputs.Goals as goal

pub returns-in_default-clause-last : goal.returns-in_default-clause-last
returns-in_default-clause-last g c = outputs_unheaded c.args.bytes.now c.args.added c.args.outputs.now (vec_items c.args.self.now.last) c.in_default.ensures

pub returns-clause-last : goal.returns-clause-last
returns-clause-last g c =
    let os = c.args.outputs.now in
    let n : c.min-count.result ≡ min c.in-Some.header.outputs (length os) = omega (arith, c.min-count.ensures) in
    λ _. outputs_change c.args.bytes.now c.args.added os (vec_items c.args.self.now.last) _ c.in-Some.header c.in-Some.ensures (sym c.if-is_err.ensures.value)
    (c.in_ok-self.ensures.items ∙ ap (λ m. take m os) n ∙ take_min c.in-Some.header.outputs os)
