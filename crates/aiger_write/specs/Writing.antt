-- What writing a graph answers, and what it leaves in the buffer.
-- The text is that of Texts.antt, or the buffer is as it was.
use Rattle.std.specs.Prelude.{ℕ, Bool, true, ◌&&◌, List, [], ◌∷◌, ◌++◌, length, drop, Ok, Err, Result, nat_lt, if◌then◌else◌}
use Rattle.rules.specs.declared.edge.Edge.{Edge}
use Rattle.rules.specs.Edges.{node}
use Rattle.graph_model.specs.declared.refusal.Refusal.{Refusal}
use Rattle.graph_model.specs.declared.refusal.Refusal.TheVariants.{TooManyOutputs, NoNode, TextTooLong}
use Rattle.graph_model.specs.Graphs.{State, nodes}
use Rattle.aiger_write.specs.Texts.{text, header_of, items}

-- a graph's text, with these edges as outputs
unfoldable pub text_of : State → List Edge → List ℕ
text_of s os = text (header_of s.inputs s.pairs os) (items s.inputs s.pairs os)

-- every edge's node is in the graph
abbrev pub all_inside : State → List Edge → Bool
all_inside s [] = true
all_inside s (e ∷ es) = nat_lt (node e) (nodes s) && all_inside s es

-- the text's length, or the first of the refusals that applies
unfoldable pub write_of : State → List Edge → List ℕ → Result ℕ Refusal
write_of s os buffer =
    if nat_lt 4096 (length os) then Err TooManyOutputs
    else (if all_inside s os then (if nat_lt (length buffer) (length (text_of s os)) then Err TextTooLong else Ok (length (text_of s os))) else Err NoNode)

-- the text and the kept rest, or all of the buffer after a refusal
abbrev pub left : List ℕ → List ℕ → Result ℕ Refusal → List ℕ
left bytes buffer (Ok n) = bytes ++ drop n buffer
left bytes buffer (Err e) = buffer

abbrev pub written : State → List Edge → List ℕ → List ℕ
written s os buffer = left (text_of s os) buffer (write_of s os buffer)
