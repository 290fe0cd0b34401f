-- A file read into a well-formed graph, as one request among others.
use Rattle.std.proofs.Common.{◌≡◌, ℕ, ◌+◌, ◌<◌, ◌≤◌, List, ◌++◌, map, length, get_or, take, drop, Ok, Err, sym, ap, ◌∙◌, subst, inl, inr, arith, length-drop}
use Rattle.std.proofs.lemmas.List.{get_or_append_left, get_or-map, get_or-take, get_or-drop, length-map, length-take-le}
use Rattle.values.specs.Algebra.{BooleanAlgebra}
use Rattle.rules.specs.declared.edge.Edge.{Edge}
use Rattle.rules.specs.declared.window.Window.{Window}
use Rattle.rules.specs.declared.window.Reply.{Reply}
use Rattle.rules.specs.Edges.{false_edge}
use Rattle.rules.specs.Lawful.{Lawful}
use Rattle.graph_model.specs.Graphs.{State}
use Rattle.graph_model.specs.WellFormed.{Well, Extends}
use Rattle.graph_model.proofs.Requests.{extends_refl}
use Rattle.aiger_lines.specs.declared.fields.Header.{Header}
use Rattle.aiger_check.specs.Text.{lines}
use Rattle.aiger_check.specs.Circuits.{Item, nothing}
use Rattle.aiger_check.specs.Files.{Taken, literal}
use Rattle.aiger_read.specs.Requests.{through}
use Rattle.aiger_read.specs.Reads.{requests}
use Rattle.aiger_read.specs.Meaning.{lit, Stands, FilesMean}
use Rattle.aiger_read.proofs.Run.{Ended, through_right}
use Rattle.aiger_read.proofs.Ends.{requests_end}
use Rattle.aiger_read.proofs.Solve.{solvable}

-- output j is made of item i + j
pub output_of : (g : Item → Edge) (is : List Item) (rest : List Edge) (i n j : ℕ) → i + n ≤ length is → j < n → get_or (map g (take n (drop i is)) ++ rest) j false_edge ≡ g (get_or is (i + j) nothing)
output_of g is rest i n j many l =
    let wide : n ≤ length (drop i is) = omega (arith, length-drop i is) in
    let long : length (map g (take n (drop i is))) ≡ n = length-map (take n (drop i is)) g ∙ length-take-le n (drop i is) wide in
    get_or_append_left (map g (take n (drop i is))) rest false_edge j (omega arith)
    ∙ get_or-map g (take n (drop i is)) j nothing false_edge (omega (arith, length-take-le n (drop i is) wide))
    ∙ ap g (get_or-take n (drop i is) j nothing l ∙ get_or-drop i is j nothing)

module _ {V : Type 0} (k : BooleanAlgebra V) (b : Window → Reply) (lawful : Lawful b) where
  ends : (bytes : List ℕ) (s : State) (m o : List Edge) (h : Header) (is : List Item) → Well b s → Taken bytes s.inputs (length m) (length o) h is → Ended k b lawful h is s 0 (requests b h is m s)
  ends bytes s m o h is well t = requests_end k b lawful h (lines bytes) is t.whole.begins (omega (arith, t.whole.count)) s well t.opens.inputs m t.opens.room.map

  pub files_mean : FilesMean k b
  files_mean bytes s m o (Ok n) t m' o' well (h, is, taken, filled) =
      let e = subst (Ended k b lawful h is s 0) filled.runs (ends bytes s m o h is well taken) in
      record {
        extends = e.1;
        well = e.0;
        counts = omega (arith, e.2);
        means = record {
          header = h;
          items = is;
          taken = taken;
          solvable = solvable k h (lines bytes) is taken.whole.begins;
          places = e.3;
          outputs = λ j l.
              subst (λ f. Stands k is t f (λ w. lit k w (literal (get_or is (h.inputs + j) nothing))))
              (sym (ap (λ z. get_or z j false_edge) filled.outputs ∙ output_of (λ i. through m' (literal i)) is (drop h.outputs o) h.inputs h.outputs j (omega (arith, taken.whole.count)) l))
              (through_right k b lawful h is is t m' (literal (get_or is (h.inputs + j) nothing)) e.3 (taken.outputs j l));
        };
      }
  files_mean bytes s m o (Err f) t m' o' well (inl (c, same)) = record { extends = subst (Extends s) (sym same) (extends_refl s); well = subst (Well b) (sym same) well; full = inl same }
  files_mean bytes s m o (Err f) t m' o' well (inr (h, is, taken, stop)) =
      let e = subst (Ended k b lawful h is s 0) stop.runs (ends bytes s m o h is well taken) in
      record { extends = e.1; well = e.0; full = inr e.2 }
