-- One request: what it keeps, what its answer means from then on, and the same request again.
use Rattle.std.proofs.Common.{◌≡◌, ℕ, ◌+◌, ◌≤◌, Bool, List, length, get_or, Ok, Err, Result, sym, refl, ap, ◌∙◌, subst, arith, length-append, Bor}
use lib.ListN.{length-replicate}
use Rattle.values.specs.Algebra.{BooleanAlgebra}
use Rattle.rules.specs.declared.edge.Edge.{Edge}
use Rattle.rules.specs.declared.window.Window.{Window}
use Rattle.rules.specs.declared.window.Reply.{Reply}
use Rattle.rules.specs.Edges.{false_edge, undefined_edge}
use Rattle.rules.specs.Lawful.{Lawful}
use Rattle.graph_model.specs.declared.operation.Operation.{Operation}
use Rattle.graph_model.specs.declared.refusal.Refusal.{Refusal}
use Rattle.graph_model.specs.Graphs.{State, Inside, meaning}
use Rattle.graph_model.specs.Requests.{and_of}
use Rattle.graph_model.specs.Operations.{apply_of}
use Rattle.graph_model.specs.Settling.{Ands}
use Rattle.graph_model.specs.WellFormed.{Well, Extends}
use Rattle.graph_model.proofs.Requests.{and_ands, ands_extends, ands_well, ands_known, ands_means, ands_counts, ands_refused, known_inside, extends_refl, extends_inside, meaning_extends}
use Rattle.graph_model.proofs.Operations.{apply_extends, apply_well, apply_counts, apply_inside, apply_means}
use Rattle.aiger_check.specs.declared.faults.CircuitFault.{CircuitFault}
use Rattle.aiger_check.specs.Circuits.{Item}
use Rattle.aiger_read.specs.Meaning.{Stands, FileGives, FileMeans, ReadDoes}
use Rattle.aiger_read.proofs.Happens.{files_mean}
use Rattle.aiger_read.proofs.Gives.{file_gives}
use Rattle.history_model.specs.declared.request.Request.{Request}
use Rattle.history_model.specs.declared.request.Request.TheVariants.{And, Apply, Read}
use Rattle.history_model.specs.Histories.{Told, anded, applied, read, undefined, World, Happens, asked, operated, loaded, saved, calculated, contrasted, charted, shown}
use Rattle.history_model.specs.Law.{Gives, ReadMeans, Counted, Question}

-- a graph that grew has no fewer pairs
pub grows : (s t : State) → Extends s t → length s.pairs ≤ length t.pairs
grows s t ext = let n : length t.pairs ≡ length s.pairs + length ext.more = ap length ext.pairs ∙ length-append s.pairs ext.more in omega arith

-- value gives the edges of u what they mean there
abbrev pub Faithful : {V : Type 0} → BooleanAlgebra V → State → (ℕ → V) → (Edge → V) → Type 0
Faithful k u ρ value = (e : Edge) → Inside u e → value e ≡ meaning k ρ u e

module _ (b : Window → Reply) (lawful : Lawful b) where
  -- an AND by its cases, where its answer and its graph are named
  pub ands_of : (s t : State) (x y : Edge) (a : Result (Edge × Bool) Refusal) → Well b s → a ≡ (and_of b s x y).answer → t ≡ (and_of b s x y).after → Ands b s x y a t
  ands_of s t x y a well p q =
      let P : Result (Edge × Bool) Refusal → Type 0 = λ z. Ands b s x y z t in
      let Q : State → Type 0 = λ z. Ands b s x y (and_of b s x y).answer z in
      subst P (sym p) (subst Q (sym q) (and_ands b lawful s well x y))

  and_counted : (W : Type 0) (s t : State) (x y : Edge) (a : Result (Edge × Bool) Refusal) → Ands b s x y a t → Counted {W = W} (anded a) (length s.pairs) (length t.pairs)
  and_counted W s t x y (Ok z) r = ands_counts r
  and_counted W s t x y (Err c) r = ap (λ (q : State). length q.pairs) (ands_refused r)

  apply_counted : (W : Type 0) (s : State) (op : Operation) (x y : Edge) (a : Result (Edge × ℕ) Refusal) → Well b s → a ≡ (apply_of b s op x y).answer
      → Counted {W = W} (applied a) (length s.pairs) (length (apply_of b s op x y).after.pairs)
  apply_counted W s op x y (Ok z) well p = apply_counts b lawful s well op x y z.0 z.1 (sym p)
  apply_counted W s op x y (Err c) well p = grows s _ (apply_extends b lawful s well op x y)

  -- all that the law asks of a kind of request
  pub record Steps {V W : Type 0} (k : BooleanAlgebra V) (v w : World) (r : Request W) (a : Told W) : Type 0 where
    pub extends : Extends v.graph w.graph
    pub well : Well b w.graph
    pub right : (u : State) → Extends w.graph u → (ρ : ℕ → V) (value : Edge → V) → Faithful k u ρ value → Gives k v.graph r a ρ value
    pub files : (u : State) → Extends w.graph u → ReadMeans k v.graph r a u
    pub counted : Counted a (length v.graph.pairs) (length w.graph.pairs)
    pub asks : Question r → w ≡ v

  module _ {V W : Type 0} (k : BooleanAlgebra V) (j : BooleanAlgebra W) where
    steps_and : (v : World) (x y : Edge) (a : Result (Edge × Bool) Refusal) (t : State) → Well b v.graph → Ands b v.graph x y a t → Steps {W = W} k v (record { graph = t; outputs = v.outputs }) (And x y) (anded a)
    steps_and v x y a t well d = record {
      extends = ands_extends d;
      well = ands_well lawful well d;
      right = λ u ext ρ value same e flag p.
          let c : a ≡ Ok (e, flag) = cc in
          let P : Result (Edge × Bool) Refusal → Type 0 = λ z. Ands b v.graph x y z t in
          let r = subst P c d in
          let i = known_inside lawful (ands_well lawful well r) (ands_known lawful well r) in
          same e (extends_inside t u e ext i) ∙ meaning_extends k ρ t u e ext i ∙ ands_means k ρ lawful well r;
      files = λ u ext. tt;
      counted = and_counted W v.graph t x y a d;
      asks = λ q. absurd q;
    }

    steps_apply : (v : World) (op : Operation) (x y : Edge) (a : Result (Edge × ℕ) Refusal) → Well b v.graph → a ≡ (apply_of b v.graph op x y).answer
        → Steps {W = W} k v (record { graph = (apply_of b v.graph op x y).after; outputs = v.outputs }) (Apply op x y) (applied a)
    steps_apply v op x y a well p = record {
      extends = apply_extends b lawful v.graph well op x y;
      well = apply_well b lawful v.graph well op x y;
      right = λ u ext ρ value same e n q.
          let c : (apply_of b v.graph op x y).answer ≡ Ok (e, n) = cc in
          let i = apply_inside b lawful v.graph well op x y e n c in
          same e (extends_inside (apply_of b v.graph op x y).after u e ext i)
          ∙ meaning_extends k ρ (apply_of b v.graph op x y).after u e ext i
          ∙ apply_means b lawful v.graph well op x y e n c k ρ;
      files = λ u ext. tt;
      counted = apply_counted W v.graph op x y a well p;
      asks = λ q. absurd q;
    }

    -- a taken file gives its edges what it says, in lists of so many places
    gives_file : (bytes : List ℕ) (s t u : State) (places outs : ℕ) (map outputs : List Edge) → Extends t u → FileMeans k bytes s (undefined places) (undefined outs) t map outputs
        → (ρ : ℕ → V) (value : Edge → V) → Faithful k u ρ value → FileGives k bytes s.inputs places outs map outputs ρ value
    gives_file bytes s t u places outs map outputs ext h ρ value same =
        let P : ℕ → Type 0 = λ n. FileGives k bytes s.inputs n (length (undefined outs)) map outputs ρ value in
        let Q : ℕ → Type 0 = λ n. FileGives k bytes s.inputs places n map outputs ρ value in
        subst Q (length-replicate outs undefined_edge) (subst P (length-replicate places undefined_edge) (file_gives k bytes s (undefined places) (undefined outs) t u map outputs ext h ρ value same))

    stands_later : (is : List Item) (t u : State) (e : Edge) (v : (ℕ → V) → V) → Extends t u → Stands k is t e v → Stands k is u e v
    stands_later is t u e v ext h = (extends_inside t u e ext h.0, λ ρ w s. meaning_extends k ρ t u e ext h.0 ∙ h.1 ρ w s)

    -- what a taken file means, it means in every graph that extends its own
    file_means_later : (bytes : List ℕ) (s t u : State) (places outs : ℕ) (map outputs : List Edge) → Extends t u
        → FileMeans k bytes s (undefined places) (undefined outs) t map outputs → FileMeans k bytes s (undefined places) (undefined outs) u map outputs
    file_means_later bytes s t u places outs map outputs ext h = record {
      header = h.header;
      items = h.items;
      taken = h.taken;
      solvable = h.solvable;
      places = λ x d. stands_later h.items t u (get_or map x false_edge) (λ w. w x) ext (h.places x d);
      outputs = λ j l. stands_later h.items t u (get_or outputs j false_edge) _ ext (h.outputs j l);
    }

    steps_file : (v w : World) (bytes : Bor (List ℕ)) (places outs : ℕ) (map outputs : List Edge) (r : Result ℕ CircuitFault)
        → ReadDoes k b bytes.now v.graph (undefined places) (undefined outs) r w.graph map outputs → Steps {W = W} k v w (Read bytes places outs) (read r map outputs)
    steps_file v w bytes places outs map outputs (Ok n) d = record {
      extends = d.extends;
      well = d.well;
      right = λ u ext ρ value same n' map' outputs' p.
          let e : map ≡ map' = cc in
          let f : outputs ≡ outputs' = cc in
          let P : List Edge → Type 0 = λ z. FileGives k bytes.now v.graph.inputs places outs z outputs' ρ value in
          let Q : List Edge → Type 0 = λ z. FileGives k bytes.now v.graph.inputs places outs map z ρ value in
          subst P e (subst Q f (gives_file bytes.now v.graph w.graph u places outs map outputs ext d.means ρ value same));
      files = λ u ext n' map' outputs' p.
          let e : map ≡ map' = cc in
          let f : outputs ≡ outputs' = cc in
          let P : List Edge → Type 0 = λ z. FileMeans k bytes.now v.graph (undefined places) (undefined outs) u z outputs' in
          let Q : List Edge → Type 0 = λ z. FileMeans k bytes.now v.graph (undefined places) (undefined outs) u map z in
          subst P e (subst Q f (file_means_later bytes.now v.graph w.graph u places outs map outputs ext d.means));
      counted = d.counts;
      asks = λ q. absurd q;
    }
    steps_file v w bytes places outs map outputs (Err f) d = record {
      extends = d.extends;
      well = d.well;
      right = λ u ext ρ value same n' map' outputs' p. let z : ◌≡◌ {A = ℕ} 0 1 = cc in absurd (omega arith);
      files = λ u ext n' map' outputs' p. let z : ◌≡◌ {A = ℕ} 0 1 = cc in absurd (omega arith);
      counted = grows v.graph w.graph d.extends;
      asks = λ q. absurd q;
    }

    pub steps : {v w : World} {r : Request W} {a : Told W} → Well b v.graph → Happens j b v r a w → Steps k v w r a
    steps {v} well (asked {x} {y} {a} {t} p q) = steps_and v x y a t well (ands_of v.graph t x y a well p q)
    steps {v} well (operated {op} {x} {y} {a} {t} p q) =
        let P : State → Type 0 = λ z. Steps {W = W} k v (record { graph = z; outputs = v.outputs }) (Apply op x y) (applied a) in
        subst P (sym q) (steps_apply v op x y a well p)
    steps {v} well (loaded {bytes} {places} {outs} {r} {t} {map} {outputs} {last} h l) =
        steps_file v (record { graph = t; outputs = last }) bytes places outs map outputs r (files_mean k b lawful bytes.now v.graph _ _ r t map outputs well h)
    steps {v} well (saved p q) = record { extends = extends_refl v.graph; well = well; right = λ u ext ρ value same. tt; files = λ u ext. tt; counted = refl; asks = λ q. refl }
    steps {v} well (calculated h) = record { extends = extends_refl v.graph; well = well; right = λ u ext ρ value same. tt; files = λ u ext. tt; counted = refl; asks = λ q. refl }
    steps {v} well (contrasted p q c) = record { extends = extends_refl v.graph; well = well; right = λ u ext ρ value same. tt; files = λ u ext. tt; counted = refl; asks = λ q. refl }
    steps {v} well (charted p q o) = record { extends = extends_refl v.graph; well = well; right = λ u ext ρ value same. tt; files = λ u ext. tt; counted = refl; asks = λ q. refl }
    steps {v} well (shown h) = record { extends = extends_refl v.graph; well = well; right = λ u ext ρ value same. tt; files = λ u ext. tt; counted = refl; asks = λ q. refl }
