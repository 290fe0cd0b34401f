-- What a taken file put into its map and outputs, later and under one assignment.
use Rattle.std.proofs.Common.{◌≡◌, ℕ, List, length, get_or, ◌∙◌}
use Rattle.values.specs.Algebra.{BooleanAlgebra}
use Rattle.rules.specs.declared.edge.Edge.{Edge}
use Rattle.rules.specs.Edges.{false_edge}
use Rattle.graph_model.specs.Graphs.{State, Inside, meaning}
use Rattle.graph_model.specs.WellFormed.{Extends}
use Rattle.aiger_read.specs.Meaning.{FileMeans, FileGives}
use Rattle.aiger_read.proofs.Run.{stands_later}

module _ {V : Type 0} (k : BooleanAlgebra V) (bytes : List ℕ) (s : State) (m o : List Edge) where
  -- whatever gives the edges of a later graph what they mean there gives those of the file what the file says
  pub file_gives : (t u : State) (m' o' : List Edge) → Extends t u → FileMeans k bytes s m o t m' o' → (ρ : ℕ → V) (value : Edge → V) → ((e : Edge) → Inside u e → value e ≡ meaning k ρ u e)
      → FileGives k bytes s.inputs (length m) (length o) m' o' ρ value
  file_gives t u m' o' ext h ρ value same = record {
    header = h.header;
    items = h.items;
    taken = h.taken;
    solvable = h.solvable ρ;
    places = λ x d w sat. let l = stands_later k h.items t u (get_or m' x false_edge) (λ w. w x) ext (h.places x d) in same (get_or m' x false_edge) l.0 ∙ l.1 ρ w sat;
    outputs = λ j n w sat. let l = stands_later k h.items t u (get_or o' j false_edge) _ ext (h.outputs j n) in same (get_or o' j false_edge) l.0 ∙ l.1 ρ w sat;
  }
