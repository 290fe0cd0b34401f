use Rattle.std.proofs.Common.{sym, ap, ◌∙◌, subst}
use Rattle.graph_model.specs.Graphs.{State}
use Rattle.graph.specs.States.{state}
use Rattle.rules.specs.Edges.{false_edge}
use Rattle.workloads.specs.Questions.{parity, Asks}
use Rattle.workloads.proofs.Stepping.{constant, later}
use Rattle.workloads.proofs.question.Question.ask.Goals as goal

pub returns-in_ok-right-in-Parities : goal.returns-in_ok-right-in-Parities
returns-in_ok-right-in-Parities g c =
    let l = c.in_ok-left-in-Parities in
    let r = c.in_ok-right-in-Parities in
    let s = state c.xor_up.new.graph in
    let t = state c.xor_down.new.graph in
    let sixteen = r.ensures.graph.inputs ∙ l.ensures.graph.inputs ∙ ap (λ (z : State). z.inputs) c.new-graph.ensures.graph in
    record { answer = subst (λ q. Asks q t l.left r.right) (sym c.in-Parities.is) (sixteen, later s t l.left (λ ρ. parity ρ 16) r.ensures.graph l.ensures.answer, r.ensures.answer) }

pub returns-in_ok-all-in-Conjunction : goal.returns-in_ok-all-in-Conjunction
returns-in_ok-all-in-Conjunction g c =
    let a = c.in_ok-all-in-Conjunction in
    let t = state c.and_up.new.graph in
    let sixteen = a.ensures.graph.inputs ∙ ap (λ (z : State). z.inputs) c.new-graph.ensures.graph in
    record { answer = subst (λ q. Asks q t a.all false_edge) (sym c.in-Conjunction.is) (sixteen, a.ensures.answer, constant t) }
