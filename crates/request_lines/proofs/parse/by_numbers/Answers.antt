use Rattle.std.proofs.Common.{List, map, sym, ap, ◌∙◌, subst}
use Rattle.rules.specs.declared.edge.Edge.{Edge}
use Rattle.request_lines.specs.Lines.{ShortEdges}
use Rattle.request_lines.proofs.Texts.{edges_numbers}
use Rattle.request_lines.proofs.Parsing.{short_edges}
use Rattle.request_lines.proofs.parse.by_numbers.Goals as goal

pub returns-in_ok-edges-in-Write : goal.returns-in_ok-edges-in-Write
returns-in_ok-edges-in-Write c =
    let e = c.in_ok-edges-in-Write.ensures in
    let P : List Edge → Type 0 = λ z. ShortEdges z in
    (subst P (sym e) (short_edges c.args.numbers.now c.requires.short), sym c.in-Write.is, sym (edges_numbers c.args.numbers.now) ∙ ap (map (λ (x : Edge). x.0)) (sym e))
