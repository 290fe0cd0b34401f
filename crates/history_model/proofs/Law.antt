-- Every list of requests keeps the law.
use Rattle.std.proofs.Common.{◌≡◌, Bool, List, [], ◌∷◌, sym, refl, subst}
use Rattle.std.specs.List.{AllByRecursion}
use Rattle.std.proofs.ByRecursion.{All-weaker}
use Rattle.values.specs.Algebra.{BooleanAlgebra}
use Rattle.values.specs.Bit.{bit_algebra}
use Rattle.rules.specs.declared.window.Window.{Window}
use Rattle.rules.specs.declared.window.Reply.{Reply}
use Rattle.rules.specs.Lawful.{Lawful}
use Rattle.graph_model.specs.Graphs.{State, meaning}
use Rattle.graph_model.specs.WellFormed.{Well, Extends}
use Rattle.graph_model.proofs.Requests.{extends_refl, extends_trans, meaning_extends}
use Rattle.history_model.specs.declared.request.Request.{Request}
use Rattle.history_model.specs.Histories.{World, Moment, History}
use Rattle.history_model.specs.Law.{Right, Evaluated, Repeats, HistoryLaw}
use Rattle.history_model.proofs.Steps.{steps}
use Rattle.history_model.proofs.Repeated.{Remembers, remembers_now, remembers_later, repeats}
use Rattle.history_model.proofs.Worths.{Everywhere, evaluated_at}

module _ {V W : Type 0} (k : BooleanAlgebra V) (j : BooleanAlgebra W) (b : Window → Reply) (lawful : Lawful b) where
  begun : (u v : World) → v ≡ u → Well b u.graph → Well b v.graph
  begun u v e well = let P : World → Type 0 = λ z. Well b z.graph in subst P (sym e) well

  -- what the moment m leaves behind, at a graph t that extends its own
  record Lasts (m : Moment W) (t : State) : Type 1 where
    extends : Extends m.after.graph t
    everywhere : Everywhere j b m.before.graph m.request m.answer m.after.graph
    remembers : Remembers j b lawful m.request m.answer t

  -- a later moment, as m sees it
  record Later (m n : Moment W) : Type 0 where
    extends : Extends m.after.graph n.after.graph
    evaluated : Evaluated j m n
    repeats : Repeats m n

  later : (m : Moment W) (rs : List (Request W)) (ns : List (Moment W)) (v w : World) → Lasts m v.graph → Well b v.graph → History j b v rs ns w → AllByRecursion (Later m) ns
  later m [] [] v w kept well h = tt
  later m [] (n ∷ ns) v w kept well h = absurd h
  later m (r ∷ rs) [] v w kept well h = absurd h
  later m (r ∷ rs) (n ∷ ns) v w kept well h =
      let s = n.before.graph in
      let t = n.after.graph in
      let start = begun v n.before h.0 well in
      let d = steps b lawful k j start h.2 in
      let E : World → Type 0 = λ z. Extends m.after.graph z.graph in
      let M : World → Type 0 = λ z. Remembers j b lawful m.request m.answer z.graph in
      let here = subst E (sym h.0) kept.extends in
      let known = subst M (sym h.0) kept.remembers in
      let ext = extends_trans m.after.graph s t here d.extends in (
        record { extends = ext; evaluated = evaluated_at j b m n kept.everywhere here h.2; repeats = repeats j b lawful m n start known h.2 },
        later m rs ns n.after w (record { extends = ext; everywhere = kept.everywhere; remembers = remembers_later j b lawful m.request m.answer s t start d.extends known }) d.well h.3,
      )

  pub law : (rs : List (Request W)) (ms : List (Moment W)) (v w : World) → Well b v.graph → History j b v rs ms w → HistoryLaw k j b ms
  law [] [] v w well h = record { right = tt; right_in_bits = tt; files = tt; evaluated = tt; lasting = tt; well = tt; counted = tt; questions = tt; repeats = tt }
  law [] (m ∷ ms) v w well h = absurd h
  law (r ∷ rs) [] v w well h = absurd h
  law (r ∷ rs) (m ∷ ms) v w well h =
      let start = begun v m.before h.0 well in
      let s = m.before.graph in
      let t = m.after.graph in
      let d = steps b lawful k j start h.2 in
      let kept : Lasts m t = record { extends = extends_refl t; everywhere = λ K i. (steps b lawful i j start h.2).right; remembers = remembers_now j b lawful start h.2 } in
      let after = later m rs ms m.after w kept d.well h.3 in
      let rest = law rs ms m.after w d.well h.3 in
      let means : (K : Type 0) (i : BooleanAlgebra K) (u : State) → Extends t u → Right i s m.request m.answer u = λ K i u ext ρ. kept.everywhere K i u ext ρ (meaning i ρ u) (λ e inside. refl) in
      record {
        right = ((means V k t (extends_refl t), All-weaker _ _ (λ n l. means V k n.after.graph l.extends) ms after), rest.right);
        right_in_bits = ((means Bool bit_algebra t (extends_refl t), All-weaker _ _ (λ n l. means Bool bit_algebra n.after.graph l.extends) ms after), rest.right_in_bits);
        files = ((d.files t (extends_refl t), All-weaker _ _ (λ n l. d.files n.after.graph l.extends) ms after), rest.files);
        evaluated = (All-weaker _ _ (λ n l. l.evaluated) ms after, rest.evaluated);
        lasting = ((λ e i ρ. (meaning_extends k ρ s t e d.extends i, All-weaker _ _ (λ n l. meaning_extends k ρ s n.after.graph e (extends_trans s t n.after.graph d.extends l.extends) i) ms after)), rest.lasting);
        well = (d.well, rest.well);
        counted = (d.counted, rest.counted);
        questions = (d.asks, rest.questions);
        repeats = (All-weaker _ _ (λ n l. l.repeats) ms after, rest.repeats);
      }

  pub history_well : (rs : List (Request W)) (ms : List (Moment W)) (v w : World) → Well b v.graph → History j b v rs ms w → Well b w.graph
  history_well [] [] v w well h = begun v w h well
  history_well [] (m ∷ ms) v w well h = absurd h
  history_well (r ∷ rs) [] v w well h = absurd h
  history_well (r ∷ rs) (m ∷ ms) v w well h = history_well rs ms m.after w (steps b lawful k j (begun v m.before h.0 well) h.2).well h.3
