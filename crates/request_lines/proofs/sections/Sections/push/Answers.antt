use Rattle.std.proofs.Common.{◌-◌, ◌∷◌, Some, vec_items, ap, arith}
use Rattle.std.specs.Vec.{vec_len}
use Rattle.request_lines.specs.declared.line.Line.TheVariants.{Graph}
use Rattle.request_lines.proofs.SectionLines.{line_more}
use Rattle.request_lines.proofs.sections.Sections.push.Goals as goal

pub returns-in_ok-push-2-clause-lines : goal.returns-in_ok-push-2-clause-lines
returns-in_ok-push-2-clause-lines c =
    let g = c.in-Some.graph.now in
    let gs = c.args.self.now.graphs in
    let item = c.in-Some.ensures.item in
    line_more (vec_items c.args.self.now.before) (vec_items gs) (vec_len gs - 1) g _ (c.args.number, c.args.line)
    (omega (arith, gs.ok.0, item.3.0))
    item.1
    (ap (λ z. (g.number, Some (Graph g.opening)) ∷ z) c.in_ok-push-2.ensures.items)
