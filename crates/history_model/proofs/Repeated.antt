-- What was answered once is known from then on, and asked again it gets the same answer.
use Rattle.std.proofs.Common.{◌≡◌, ℕ, Bool, false, ◌⊎◌, List, Ok, Result, sym, ap, ◌∙◌, subst, inl, inr, Bor}
use Rattle.values.specs.Algebra.{BooleanAlgebra}
use Rattle.rules.specs.declared.edge.Edge.{Edge}
use Rattle.rules.specs.declared.window.Window.{Window}
use Rattle.rules.specs.declared.window.Reply.{Reply}
use Rattle.rules.specs.Lawful.{Lawful}
use Rattle.graph_model.specs.declared.operation.Operation.{Operation}
use Rattle.graph_model.specs.declared.refusal.Refusal.{Refusal}
use Rattle.graph_model.specs.Graphs.{State}
use Rattle.graph_model.specs.Operations.{apply_of, Symmetric}
use Rattle.graph_model.specs.Settling.{Ands}
use Rattle.graph_model.specs.WellFormed.{Well, Extends}
use Rattle.graph_model.proofs.Requests.{ands_known, Known, known_ands, known_extends, known_turn, extends_refl, extends_trans}
use Rattle.graph_model.proofs.Operations.{AppliedKnown, applied_extends, applied_turn, applied_again, apply_known}
use Rattle.aiger_check.specs.declared.faults.CircuitFault.{CircuitFault}
use Rattle.aiger_read.specs.Reads.{Reads}
use Rattle.aiger_read.proofs.Again.{files_repeat}
use Rattle.history_model.specs.declared.request.Request.{Request}
use Rattle.history_model.specs.declared.request.Request.TheVariants.{And, Apply, Read, Write, Evaluate, Compare, Tabulate, Pairs}
use Rattle.history_model.specs.Histories.{Told, anded, applied, read, undefined, World, Happens, asked, operated, loaded, saved, calculated, contrasted, charted, shown, Moment}
use Rattle.history_model.specs.Law.{Repeats}
use Rattle.history_model.proofs.Steps.{ands_of}

module _ {W : Type 0} (j : BooleanAlgebra W) (b : Window → Reply) (lawful : Lawful b) where
  -- the file was taken before, in a graph that u extends
  pub record TakenBefore (bytes : List ℕ) (places outs n : ℕ) (map outputs : List Edge) (u : State) : Type 0 where
    pub before : State
    pub after : State
    pub well : Well b before
    pub reads : Reads b bytes before (undefined places) (undefined outs) (Ok n) after map outputs
    pub extends : Extends after u

  -- what an answered request leaves to be found in the graph u
  abbrev pub Remembers : Request W → Told W → State → Type 0
  Remembers (And x y) a u = (e : Edge) (flag : Bool) → a ≡ anded (Ok (e, flag)) → Known b u x y e
  Remembers (Apply op x y) a u = (e : Edge) (n : ℕ) → a ≡ applied (Ok (e, n)) → AppliedKnown b u op x y e
  Remembers (Read bytes places outs) a u = (n : ℕ) (map outputs : List Edge) → a ≡ read (Ok n) map outputs → TakenBefore bytes.now places outs n map outputs u
  Remembers (Write os room) a u = Unit {0}
  Remembers (Evaluate ins places) a u = Unit {0}
  Remembers (Compare x y places) a u = Unit {0}
  Remembers (Tabulate e places) a u = Unit {0}
  Remembers Pairs a u = Unit {0}

  pub remembers_now : {v w : World} {r : Request W} {a : Told W} → Well b v.graph → Happens j b v r a w → Remembers r a w.graph
  remembers_now {v} well (asked {x} {y} {a} {t} p q) = λ e flag h.
      let c : a ≡ Ok (e, flag) = cc in
      let P : Result (Edge × Bool) Refusal → Type 0 = λ z. Ands b v.graph x y z t in
      ands_known lawful well (subst P c (ands_of b lawful v.graph t x y a well p q))
  remembers_now {v} well (operated {op} {x} {y} {a} {t} p q) = λ e n h.
      let c : (apply_of b v.graph op x y).answer ≡ Ok (e, n) = cc in
      let P : State → Type 0 = λ z. AppliedKnown b z op x y e in
      subst P (sym q) (apply_known b lawful v.graph well op x y e n c)
  remembers_now {v} well (loaded {bytes} {places} {outs} {r} {t} {map} {outputs} h l) = λ n map' outputs' p.
      let c : r ≡ Ok n = cc in
      let e : map ≡ map' = cc in
      let f : outputs ≡ outputs' = cc in
      let R : Result ℕ CircuitFault → Type 0 = λ z. Reads b bytes.now v.graph (undefined places) (undefined outs) z t map outputs in
      let M : List Edge → Type 0 = λ z. Reads b bytes.now v.graph (undefined places) (undefined outs) (Ok n) t z outputs in
      let O : List Edge → Type 0 = λ z. Reads b bytes.now v.graph (undefined places) (undefined outs) (Ok n) t map' z in
      record { before = v.graph; after = t; well = well; reads = subst O f (subst M e (subst R c h)); extends = extends_refl t }
  remembers_now well (saved p q) = tt
  remembers_now well (calculated h) = tt
  remembers_now well (contrasted p q c) = tt
  remembers_now well (charted p q o) = tt
  remembers_now well (shown h) = tt

  pub remembers_later : (r : Request W) (a : Told W) (u t : State) → Well b u → Extends u t → Remembers r a u → Remembers r a t
  remembers_later (And x y) a u t well ext h = λ e flag p. known_extends lawful well (h e flag p) ext
  remembers_later (Apply op x y) a u t well ext h = λ e n p. applied_extends lawful op x y e well (h e n p) ext
  remembers_later (Read bytes places outs) a u t well ext h = λ n map outputs p.
      let d = h n map outputs p in
      record { before = d.before; after = d.after; well = d.well; reads = d.reads; extends = extends_trans d.after u t d.extends ext }
  remembers_later (Write os room) a u t well ext h = tt
  remembers_later (Evaluate ins places) a u t well ext h = tt
  remembers_later (Compare x y places) a u t well ext h = tt
  remembers_later (Tabulate e places) a u t well ext h = tt
  remembers_later Pairs a u t well ext h = tt

  -- what a request is answered where its answer is in the graph already
  abbrev Finds : Request W → Told W → World → World → Type 0
  Finds (And x y) a v w = (e : Edge) → Known b v.graph x y e → (a ≡ anded (Ok (e, false))) × (w.graph ≡ v.graph)
  Finds (Apply op x y) a v w = (e : Edge) → AppliedKnown b v.graph op x y e → (a ≡ applied (Ok (e, 0))) × (w.graph ≡ v.graph)
  Finds (Read bytes places outs) a v w = (n : ℕ) (map outputs : List Edge) → TakenBefore bytes.now places outs n map outputs v.graph → (a ≡ read (Ok 0) map outputs) × (w.graph ≡ v.graph)
  Finds (Write os room) a v w = Unit {0}
  Finds (Evaluate ins places) a v w = Unit {0}
  Finds (Compare x y places) a v w = Unit {0}
  Finds (Tabulate e places) a v w = Unit {0}
  Finds Pairs a v w = Unit {0}

  finds : {v w : World} {r : Request W} {a : Told W} → Well b v.graph → Happens j b v r a w → Finds r a v w
  finds {v} well (asked {x} {y} {a} {t} p q) = λ e known. let d = known_ands well known (ands_of b lawful v.graph t x y a well p q) in (ap anded d.0, d.1)
  finds {v} well (operated {op} {x} {y} {a} {t} p q) = λ e known. let d = applied_again b lawful v.graph well op x y e known in (ap applied (p ∙ d.0), q ∙ d.1)
  finds {v} well (loaded {bytes} {places} {outs} {r} {t} {map} {outputs} h l) = λ n map' outputs' d.
      let f = files_repeat b lawful bytes.now d.before d.after v.graph t (undefined places) (undefined outs) map' outputs' map outputs n r d.well d.reads d.extends well h in
      (ap (λ z. read z map outputs) f.0 ∙ ap (λ z. read (Ok 0) z outputs) f.2 ∙ ap (read (Ok 0) map') f.3, f.1)
  finds well (saved p q) = tt
  finds well (calculated h) = tt
  finds well (contrasted p q c) = tt
  finds well (charted p q o) = tt
  finds well (shown h) = tt

  pub repeats : (m n : Moment W) → Well b n.before.graph → Remembers m.request m.answer n.before.graph → Happens j b n.before n.request n.answer n.after → Repeats m n
  repeats m n well kept h = record { ands = ands; operations = operations; files = files }
    where
      remembered : (r : Request W) → m.request ≡ r → Remembers r m.answer n.before.graph
      remembered r f = let P : Request W → Type 0 = λ z. Remembers z m.answer n.before.graph in subst P f kept

      found : (r : Request W) → n.request ≡ r → Finds r n.answer n.before n.after
      found r f = let P : Request W → Type 0 = λ z. Finds z n.answer n.before n.after in subst P f (finds well h)

      ands : (x y e : Edge) (flag : Bool) → m.request ≡ And x y → m.answer ≡ anded (Ok (e, flag)) → (n.request ≡ And x y) ⊎ (n.request ≡ And y x) → (n.answer ≡ anded (Ok (e, false))) × (n.after.graph ≡ n.before.graph)
      ands x y e flag f g (inl o) = found (And x y) o e (remembered (And x y) f e flag g)
      ands x y e flag f g (inr o) = found (And y x) o e (known_turn (remembered (And x y) f e flag g))

      operations : (op : Operation) (x y e : Edge) (i : ℕ) → m.request ≡ Apply op x y → m.answer ≡ applied (Ok (e, i)) → (n.request ≡ Apply op x y) ⊎ (Symmetric op × (n.request ≡ Apply op y x))
          → (n.answer ≡ applied (Ok (e, 0))) × (n.after.graph ≡ n.before.graph)
      operations op x y e i f g (inl o) = found (Apply op x y) o e (remembered (Apply op x y) f e i g)
      operations op x y e i f g (inr o) = found (Apply op y x) o.1 e (applied_turn b n.before.graph x y e o.0 (remembered (Apply op x y) f e i g))

      files : (bytes again : Bor (List ℕ)) (places outs i : ℕ) (map outputs : List Edge) → m.request ≡ Read bytes places outs → m.answer ≡ read (Ok i) map outputs → n.request ≡ Read again places outs
          → again.now ≡ bytes.now → (n.answer ≡ read (Ok 0) map outputs) × (n.after.graph ≡ n.before.graph)
      files bytes again places outs i map outputs f g o same =
          let P : List ℕ → Type 0 = λ z. TakenBefore z places outs i map outputs n.before.graph in
          found (Read again places outs) o i map outputs (subst P (sym same) (remembered (Read bytes places outs) f i map outputs g))
