use Rattle.std.proofs.Common.{List, ℕ, take, sym, subst}
use Rattle.request_lines.specs.Parts.{Cut}
use Rattle.request_lines.proofs.Texts.{cut_at}
use Rattle.request_lines.proofs.numbers.cut.Goals as goal

pub returns : goal.returns
returns c =
    let bs = c.args.bytes.now in
    let e = c.first_space.ensures in
    let P : List ℕ → Type 0 = λ z. Cut bs z c.split_at.result.1.now in
    let Q : List ℕ → Type 0 = λ z. Cut bs (take c.first_space.result bs) z in
    subst P (sym c.split_at.ensures.front) (subst Q (sym c.split_at.ensures.back) (cut_at bs c.first_space.result e.within e.before e.found))
