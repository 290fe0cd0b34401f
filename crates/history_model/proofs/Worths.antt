-- An evaluation gives the edges that were answered before it the values of the functions requested.
use Rattle.std.proofs.Common.{◌≡◌, ℕ, ◌<◌, Bool, true, false, cond, List, ◌++◌, length, get_or, drop, replicate, Ok, Err, Result, sym, ap, ◌∙◌, subst, arith}
use lib.ListN.{length-replicate}
use Rattle.std.proofs.lemmas.List.{get_or_append_left}
use Rattle.values.specs.Algebra.{BooleanAlgebra}
use Rattle.values.specs.Bit.{bit_algebra}
use Rattle.values.specs.Blocks.{block_algebra}
use Rattle.values.specs.Rows.{table_algebra}
use Rattle.rules.specs.declared.edge.Edge.{Edge}
use Rattle.rules.specs.declared.window.Window.{Window}
use Rattle.rules.specs.declared.window.Reply.{Reply}
use Rattle.rules.specs.Edges.{node}
use Rattle.rules.specs.Meaning.{means}
use Rattle.graph_model.specs.declared.refusal.Refusal.{Refusal}
use Rattle.graph_model.specs.declared.refusal.Refusal.TheVariants.{Values}
use Rattle.graph_model.specs.Graphs.{State, nodes, at, node_values}
use Rattle.graph_model.specs.WellFormed.{Extends}
use Rattle.graph_model.proofs.Meanings.{means_at}
use Rattle.graph_model.proofs.Requests.{values_length}
use Rattle.questions.specs.Evaluation.{assigned, suits, evaluation}
use Rattle.history_model.specs.declared.request.Inputs.{Inputs}
use Rattle.history_model.specs.declared.request.Request.{Request}
use Rattle.history_model.specs.declared.request.Request.TheVariants.{And, Apply, Read, Write, Evaluate, Compare, Tabulate, Pairs}
use Rattle.history_model.specs.Histories.{Listed, Told, valued, World, EvaluatesIn, Evaluates, by_bits, by_blocks, by_tables, by_others, Happens, asked, operated, loaded, saved, calculated, contrasted, charted, shown, Moment}
use Rattle.history_model.specs.Law.{Gives, Worth, in_bits, in_blocks, in_tables, in_others, Evaluated}
use Rattle.history_model.proofs.Steps.{Faithful}

-- the values of the nodes, and other places after them
filled_faithful : {K : Type 0} (k : BooleanAlgebra K) (s : State) (ρ : ℕ → K) (rest vs : List K) → vs ≡ node_values k ρ s ++ rest → Faithful k s ρ (means k (at k vs))
unfolding at
filled_faithful k s ρ rest vs h e i =
    let l : node e < length (node_values k ρ s) = rw (values_length k ρ s) i in
    means_at k (at k vs) (at k (node_values k ρ s)) e (ap (λ z. get_or z (node e) k.bottom) h ∙ get_or_append_left (node_values k ρ s) rest k.bottom (node e) l)

-- an evaluation that was not refused gives the edges of its graph what they mean
evaluation_faithful : {K : Type 0} (k : BooleanAlgebra K) (s : State) (ins : List K) (places : ℕ) (vs : List K) → EvaluatesIn k s ins places (Ok tt) vs → Faithful k s (assigned k ins) (means k (at k vs))
evaluation_faithful {K} k s ins places vs h =
    let old = replicate places k.bottom in
    let full = node_values k (assigned k ins) s ++ drop (nodes s) old in
    let room : length old ≡ places = length-replicate places k.bottom in
    let P : Bool → Type 0 = λ z. ◌≡◌ {A = Result (Unit {0}) Refusal} (Ok tt) (cond z (Ok tt) (Err Values)) → vs ≡ cond z full old → Faithful k s (assigned k ins) (means k (at k vs)) in
    go (suits s (length ins) (length old)) (h.answer ∙ ap (evaluation s (length ins)) (sym room)) h.values
  where
    go : (z : Bool) → ◌≡◌ {A = Result (Unit {0}) Refusal} (Ok tt) (cond z (Ok tt) (Err Values))
        → vs ≡ cond z (node_values k (assigned k ins) s ++ drop (nodes s) (replicate places k.bottom)) (replicate places k.bottom) → Faithful k s (assigned k ins) (means k (at k vs))
    go true p q = filled_faithful k s (assigned k ins) (drop (nodes s) (replicate places k.bottom)) vs q
    go false p q = let z : ◌≡◌ {A = ℕ} 0 1 = cc in absurd (omega arith)

module _ {W : Type 0} (j : BooleanAlgebra W) (b : Window → Reply) where
  -- the edges answered to a request made of s mean the functions requested in every graph that extends t, in every algebra
  abbrev pub Everywhere : State → Request W → Told W → State → Type 1
  Everywhere s r a t = (K : Type 0) (k : BooleanAlgebra K) (u : State) → Extends t u → (ρ : ℕ → K) (value : Edge → K) → Faithful k u ρ value → Gives k s r a ρ value

  worth : (s t u : State) (r : Request W) (a : Told W) (places : ℕ) {ins : Inputs W} {vs : Listed W} → Everywhere s r a t → Extends t u → Evaluates j u places (Ok tt) ins vs → Worth j s r a ins vs
  worth s t u r a places right ext (by_bits {ins} {vs} h) = in_bits (right _ bit_algebra u ext _ _ (evaluation_faithful bit_algebra u ins.now places vs h))
  worth s t u r a places right ext (by_blocks {ins} {vs} h) = in_blocks (right _ block_algebra u ext _ _ (evaluation_faithful block_algebra u ins.now places vs h))
  worth s t u r a places right ext (by_tables {ins} {vs} h) = in_tables (right _ table_algebra u ext _ _ (evaluation_faithful table_algebra u ins.now places vs h))
  worth s t u r a places right ext (by_others {ins} {vs} h) = in_others (right _ j u ext _ _ (evaluation_faithful j u ins.now places vs h))

  -- what a request to evaluate is answered
  abbrev Answers : Request W → Told W → State → Type 0
  Answers (And x y) a s = Unit {0}
  Answers (Apply op x y) a s = Unit {0}
  Answers (Read bytes places outs) a s = Unit {0}
  Answers (Write os room) a s = Unit {0}
  Answers (Evaluate ins places) a s = (vs : Listed W) → a ≡ valued (Ok tt) vs → Evaluates j s places (Ok tt) ins vs
  Answers (Compare x y places) a s = Unit {0}
  Answers (Tabulate e places) a s = Unit {0}
  Answers Pairs a s = Unit {0}

  answers : {v w : World} {r : Request W} {a : Told W} → Happens j b v r a w → Answers r a v.graph
  answers (asked p q) = tt
  answers (operated p q) = tt
  answers (loaded h l) = tt
  answers (saved p q) = tt
  answers {v} (calculated {ins} {places} {r} {vs} h) = λ ws p.
      let c : r ≡ Ok tt = cc in
      let d : vs ≡ ws = cc in
      let P : Result (Unit {0}) Refusal → Type 0 = λ z. Evaluates j v.graph places z ins vs in
      let Q : Listed W → Type 0 = λ z. Evaluates j v.graph places (Ok tt) ins z in
      subst Q d (subst P c h)
  answers (contrasted p q c) = tt
  answers (charted p q o) = tt
  answers (shown h) = tt

  pub evaluated_at : (m n : Moment W) → Everywhere m.before.graph m.request m.answer m.after.graph → Extends m.after.graph n.before.graph
      → Happens j b n.before n.request n.answer n.after → Evaluated j m n
  evaluated_at m n right ext h = λ ins places vs f g.
      let P : Request W → Type 0 = λ z. Answers z n.answer n.before.graph in
      worth m.before.graph m.after.graph n.before.graph m.request m.answer places right ext (subst P f (answers h) vs g)
