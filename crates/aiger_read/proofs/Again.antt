-- A file that was taken, read again in any later graph.
use Rattle.std.proofs.Common.{◌≡◌, ℕ, ◌+◌, ◌/◌, Bool, cond, List, [], ◌∷◌, length, drop, set, Ok, Err, Result, sym, refl, ap, ◌∙◌, subst, add-zero}
use Rattle.rules.specs.declared.edge.Edge.{Edge}
use Rattle.rules.specs.declared.window.Window.{Window}
use Rattle.rules.specs.declared.window.Reply.{Reply}
use Rattle.rules.specs.Lawful.{Lawful}
use Rattle.graph_model.specs.declared.refusal.Refusal.{Refusal}
use Rattle.graph_model.specs.Graphs.{State}
use Rattle.graph_model.specs.Requests.{and_of}
use Rattle.graph_model.specs.Settling.{Ands}
use Rattle.graph_model.specs.WellFormed.{Well, Extends}
use Rattle.graph_model.proofs.Requests.{Known, extends_refl, extends_trans, and_ands, ands_extends, ands_well, ands_known, known_ands, known_extends}
use Rattle.aiger_check.specs.Circuits.{Item, input, output, gate}
use Rattle.aiger_check.specs.Checks.{notes}
use Rattle.aiger_check.specs.Files.{Taken}
use Rattle.aiger_check.specs.Calls.{opened}
use Rattle.aiger_read.specs.Requests.{through, Outcome, done, stopped, run}
use Rattle.aiger_read.specs.Reads.{FilesRepeat}
use Rattle.aiger_read.proofs.OneReading.{one_reading}

module _ (b : Window → Reply) (lawful : Lawful b) where
  -- what the requests answered from s on, they answer in every later graph, and leave it as it is
  abbrev Repeats : ℕ → List Item → State → List Edge → Outcome → Type 0
  Repeats n is s m (done p t c) = Extends s t × ((u : State) (a : ℕ) → Extends t u → Well b u → run b n is u m a ≡ done p u a)
  Repeats n is s m (stopped k t) = Unit {0}

  -- an AND that is known gets its edge, and the requests after it follow in the same graph
  known_run : (x y z n : ℕ) (is : List Item) (u : State) (m : List Edge) (a : ℕ) (e : Edge) → Well b u → Known b u (through m y) (through m z) e
      → run b n (gate x y z ∷ is) u m a ≡ run b (n + 1) is u (set m (x / 2) e) a
  unfolding run
  known_run x y z n is u m a e well known =
      let d = known_ands well known (and_ands b lawful u well (through m y) (through m z)) in
      (λ i. elim (d.0 i) [ Ok r ↦ run b (n + 1) is (d.1 i) (set m (x / 2) r.0) (a + cond r.1 1 0) | Err c ↦ stopped n (d.1 i) ])
      ∙ ap (run b (n + 1) is u (set m (x / 2) e)) (add-zero a)

  -- one answered gate more
  repeats_gate : (x y z n : ℕ) (is : List Item) (s t : State) (m : List Edge) (e : Edge) → Extends s t → Well b t → Known b t (through m y) (through m z) e
      → (o : Outcome) → Repeats (n + 1) is t (set m (x / 2) e) o → Repeats n (gate x y z ∷ is) s m o
  repeats_gate x y z n is s t m e ext well known (done p v c) r = (
    extends_trans s t v ext r.0,
    λ u a later now_well. known_run x y z n is u m a e now_well (known_extends lawful well known (extends_trans t v u r.0 later)) ∙ r.1 u a later now_well,
  )
  repeats_gate x y z n is s t m e ext well known (stopped k v) r = tt

  repeats_input : (i : Item) (n : ℕ) (is : List Item) (s : State) (m : List Edge) → ((u : State) (a : ℕ) → run b n (i ∷ is) u m a ≡ run b (n + 1) is u m a)
      → (o : Outcome) → Repeats (n + 1) is s m o → Repeats n (i ∷ is) s m o
  repeats_input i n is s m same (done p t c) r = (r.0, λ u a later well. same u a ∙ r.1 u a later well)
  repeats_input i n is s m same (stopped k t) r = tt

  repeats : (is : List Item) (n : ℕ) (s : State) (m : List Edge) (a : ℕ) → Well b s → Repeats n is s m (run b n is s m a)
  unfolding run
  repeats [] n s m a well = (extends_refl s, λ u c later now_well. refl)
  repeats (input v ∷ is) n s m a well = repeats_input (input v) n is s m (λ u c. refl) (run b (n + 1) is s m a) (repeats is (n + 1) s m a well)
  repeats (output v ∷ is) n s m a well = repeats_input (output v) n is s m (λ u c. refl) (run b (n + 1) is s m a) (repeats is (n + 1) s m a well)
  repeats (gate x y z ∷ is) n s m a well =
      go (and_of b s (through m y) (through m z)).answer (and_ands b lawful s well (through m y) (through m z)) (λ e new next. repeats is (n + 1) t (set m (x / 2) e) (a + cond new 1 0) next)
    where
      t : State
      t = (and_of b s (through m y) (through m z)).after

      go : (q : Result (Edge × Bool) Refusal) → Ands b s (through m y) (through m z) q t → ((e : Edge) (new : Bool) → Well b t → Repeats (n + 1) is t (set m (x / 2) e) (run b (n + 1) is t (set m (x / 2) e) (a + cond new 1 0)))
          → Repeats n (gate x y z ∷ is) s m (elim q [ Ok f ↦ run b (n + 1) is t (set m (x / 2) f.0) (a + cond f.1 1 0) | Err c ↦ stopped n t ])
      go (Ok f) ands rest =
          repeats_gate x y z n is s t m f.0 (ands_extends ands) (ands_well lawful well ands) (ands_known lawful well ands) (run b (n + 1) is t (set m (x / 2) f.0) (a + cond f.1 1 0))
          (rest f.0 f.1 (ands_well lawful well ands))
      go (Err c) ands rest = tt

  pub files_repeat : FilesRepeat b
  files_repeat bytes s t u v m o m' o' m'' o'' n r well (h, is, taken, filled) later now_well second =
      let gates = h.inputs + h.outputs in
      let p = subst (Repeats gates (drop gates is) s (notes 0 is (opened h.max m))) filled.runs (repeats (drop gates is) gates s (notes 0 is (opened h.max m)) 0 well) in
      let P : ℕ → Type 0 = λ i. Taken bytes i (length m) (length o) h is in
      one_reading b bytes u m o r (Ok 0) v u m'' m' o'' o' second (
        h,
        is,
        subst P (sym (later.inputs ∙ p.0.inputs)) taken,
        record { runs = p.1 u 0 later now_well; unknown = filled.unknown; beyond = filled.beyond; outputs = filled.outputs },
      )
