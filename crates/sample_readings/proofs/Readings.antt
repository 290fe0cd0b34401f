use Rattle.std.proofs.Common.{◌≡◌, ℕ, List, Result, subst}
use Rattle.rules.specs.declared.edge.Edge.{Edge}
use Rattle.rules.specs.declared.window.Window.{Window}
use Rattle.rules.specs.declared.window.Reply.{Reply}
use Rattle.graph_model.specs.Graphs.{State}
use Rattle.aiger_check.specs.declared.faults.CircuitFault.{CircuitFault}
use Rattle.aiger_read.specs.Reads.{Reads}

-- a reading, of a graph and of buffers that are known by what they are equal to
pub reads-of_equal : (b c : Window → Reply) (bytes : List ℕ) (s t : State) (m n o p : List Edge) (r : Result ℕ CircuitFault) (u : State) (m' o' : List Edge)
    → b ≡ c → s ≡ t → m ≡ n → o ≡ p → Reads b bytes s m o r u m' o' → Reads c bytes t n p r u m' o'
reads-of_equal b c bytes s t m n o p r u m' o' rules state map outputs x =
    let R : (Window → Reply) → Type 0 = λ z. Reads z bytes t n p r u m' o' in
    let S : State → Type 0 = λ z. Reads b bytes z n p r u m' o' in
    let M : List Edge → Type 0 = λ z. Reads b bytes s z p r u m' o' in
    let O : List Edge → Type 0 = λ z. Reads b bytes s m z r u m' o' in
    subst R rules (subst S state (subst M map (subst O outputs x)))
