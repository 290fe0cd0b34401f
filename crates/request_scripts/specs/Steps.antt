-- The requests that the steps of a script make.
-- Each step is one request, and the sizes of its lists are those of the graph.
use Rattle.std.specs.Prelude.{◌≡◌, ℕ, ◌+◌, Bool, List, [], ◌∷◌, ◌++◌, min, vec_items, Some, None, Option, option_to_list}
use Rattle.std.specs.Borrow.{Bor}
use Rattle.rules.specs.declared.edge.Edge.{Edge}
use Rattle.graph_model.specs.declared.operation.Operation.{Operation}
use Rattle.graph_model.specs.declared.operation.Operation.TheVariants as operation
use Rattle.history_model.specs.declared.request.Inputs.TheVariants.{Bits}
use Rattle.history_model.specs.declared.request.Outputs.TheVariants.{Edges}
use Rattle.history_model.specs.declared.request.Request.{Request}
use Rattle.history_model.specs.declared.request.Request.TheVariants as request
use Rattle.request_lines.specs.declared.line.Opening.{Opening}
use Rattle.request_lines.specs.declared.line.Ask.{Ask}
use Rattle.request_lines.specs.declared.line.Ask.TheVariants as an_ask
use Rattle.aiger_room.specs.declared.room.Room.{Room}
use Rattle.aiger_room.specs.Rooms.{RoomFor}
use Rattle.request_scripts.specs.declared.step.Step.{Step}
use Rattle.request_scripts.specs.declared.step.Step.TheVariants as a_step
use Rattle.request_lines.specs.Lines.{Said, and, apply, asked}

-- the request, where a list of values has so many places
abbrev pub AskRequest : {W : Type 0} → Ask → ℕ → Request W → Type 0
AskRequest (an_ask.And x y) places r = r ≡ request.And x y
AskRequest (an_ask.Apply op x y) places r = r ≡ request.Apply op x y
AskRequest (an_ask.Evaluate v) places r = (b : Bor (List Bool)) × (b.now ≡ vec_items v) × (r ≡ request.Evaluate (Bits b) places)
AskRequest (an_ask.Compare x y) places r = r ≡ request.Compare x y places
AskRequest (an_ask.Table e) places r = r ≡ request.Tabulate e places
AskRequest (an_ask.Write v) places r = (b : Bor (List Edge)) × (b.now ≡ vec_items v) × (r ≡ request.Write (Edges b) 1048576)
AskRequest an_ask.Pairs places r = r ≡ request.Pairs

-- a file has the places that its header asks for; a line that says nothing makes no request
abbrev pub Requests : {W : Type 0} → Step → ℕ → Option (Request W) → Type 0
Requests (a_step.Ask a) places (Some r) = AskRequest a places r
Requests (a_step.File v) places (Some r) = (b : Bor (List ℕ)) × (s : Room) × (b.now ≡ vec_items v) × RoomFor (vec_items v) s × (r ≡ request.Read b s.places s.outputs)
Requests (a_step.Misread k) places None = Unit {0}
Requests s places r = ⊥

-- the most nodes that an operation adds
abbrev pub operation_adds : Operation → ℕ
operation_adds operation.Or = 1
operation_adds operation.Implies = 1
operation_adds operation.Equiv = 3
operation_adds operation.Xor = 3

-- the most nodes that a request adds
abbrev pub ask_adds : Said → ℕ
ask_adds (and x y) = 1
ask_adds (apply op x y) = operation_adds op
ask_adds l = 0

-- the most nodes that a step adds: of a file the gates that its header names
abbrev pub Adds : Step → ℕ → Type 0
Adds (a_step.Ask a) n = n ≡ ask_adds (asked a)
Adds (a_step.File v) n = (s : Room) × RoomFor (vec_items v) s × (n ≡ s.gates)
Adds (a_step.Misread k) n = n ≡ 0

-- the places of a list of values: one for each node that there can be, where the requests before have added `most` at most
abbrev pub places_for : Opening → ℕ → ℕ
places_for o most = min o.inputs 4096 + 1 + min (min o.records 1000000) most

-- the requests of these steps, in order, where those before have added `most` nodes at most
abbrev pub Asks : {W : Type 0} → Opening → ℕ → List Step → List (Request W) → Type 0
Asks o most [] rs = rs ≡ []
Asks {W} o most (s ∷ ss) rs =
    (r : Option (Request W)) × (rest : List (Request W)) × (n : ℕ) × (rs ≡ option_to_list r ++ rest) × Requests s (places_for o most) r × Adds s n × Asks o (min (most + n) 1000000) ss rest
