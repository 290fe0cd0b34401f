-- The pass over the lines below the header, line by line.
use Rattle.std.proofs.Common.{◌≡◌, ℕ, ◌+◌, ◌<◌, ◌≤◌, List, [], ◌∷◌, ◌++◌, length, get_or, Ok, Err, Result, sym, refl, ap, ◌∙◌, subst, inl, inr, ⊎_elim, arith}
use Rattle.std.proofs.lemmas.List.{get_or_past, length_push}
use Rattle.std.proofs.lemmas.Bool.{cases_lt}
use Rattle.std.specs.Prelude.{MatchResult, IsErrAnd}
use Rattle.rules.specs.declared.edge.Edge.{Edge}
use Rattle.aiger_lines.specs.declared.number.DigitFault.TheVariants.{Other}
use Rattle.aiger_lines.specs.declared.fields.Header.{Header}
use Rattle.aiger_check.specs.declared.faults.LineFault.{LineFault}
use Rattle.aiger_check.specs.declared.faults.AtLine.{AtLine}
use Rattle.aiger_check.specs.declared.faults.LineFault.TheVariants.{Form}
use Rattle.aiger_check.specs.declared.section.Section.{Section}
use Rattle.aiger_check.specs.declared.section.Section.TheVariants.{Names, Comments}
use Rattle.aiger_check.specs.Circuits.{Item, total, Begins}
use Rattle.aiger_check.specs.Checks.{Small, Start, notes, puts}
use Rattle.aiger_check.specs.Names.{NameLine, NameFault, NamesTo}
use Rattle.aiger_check.specs.Files.{LinesFault, in_line, in_name}
use Rattle.aiger_check.specs.Calls.{LinesRead}
use Rattle.aiger_check.specs.Sections.{At, StepChecked}
use Rattle.aiger_check.proofs.Noting.{first_bad, one_more, noted_more, put_more, missing}
use Rattle.aiger_check.proofs.Steps.{before_names}

-- a line's fault with the line's number
pub at_line : (n : ℕ) (P : LineFault → AtLine → Type 0) → ((e : LineFault) (f : AtLine) → P e f → f ≡ record { line = n; fault = e }) → (r : Result (Unit {0}) LineFault) (q : Result (Unit {0}) AtLine) (g : AtLine) → q ≡ Err g → MatchResult r (λ x. q ≡ Ok x) (λ e. IsErrAnd q (P e)) → (f : LineFault) × (r ≡ Err f) × (g ≡ record { line = n; fault = f })
at_line n P means (Ok u) q g is m = grind arith
at_line n P means (Err e) q g is m = (e, refl, means e g (subst (λ z. IsErrAnd z (P e)) is m))

-- what a step tells of a header g, told of the same header h
pub stepped : (h g : Header) → g ≡ h → (k : ℕ) (s : Section) (bs : List ℕ) (m o : List Edge) (r q : Result (Unit {0}) LineFault) (t : Section) (m' o' : List Edge) → (At g k s → StepChecked g k bs m o r t m' o') → At h k s → r ≡ q → StepChecked h k bs m o q t m' o'
stepped h g e k s bs m o r q t m' o' f at is = subst (λ z. StepChecked h k bs m o z t m' o') is (subst (λ z. StepChecked z k bs m o r t m' o') e (f (subst (λ z. At z k s) (sym e) at)))

module _ (h : Header) (ls : List (List ℕ)) (m o : List Edge) where
  -- the first n lines are read, and section s is due
  pub record Reached (n : ℕ) (s : Section) (m' o' : List Edge) : Type 0 where
    pub items : List Item
    pub begins : Begins h ls items
    pub map : m' ≡ notes 0 items m
    pub outputs : o' ≡ puts h.inputs 0 items o
    pub below : ℕ
    pub place : n ≡ below + 1
    pub due : At h below s
    pub count : below ≤ total h → length items ≡ below
    pub rest : total h ≤ below → length items ≡ total h
    pub names : NamesTo h ls (total h + 1) n

  pub start : (n : ℕ) (s : Section) → n ≡ 1 → At h 0 s → Reached n s m o
  unfolding notes puts
  start n s one at = record {
    items = [];
    begins = λ k l. absurd (omega arith);
    map = refl;
    outputs = refl;
    below = 0;
    place = one;
    due = at;
    count = λ l. refl;
    rest = λ l. omega arith;
    names = λ j a b. absurd (omega arith);
  }

  module _ (small : Small h) (starts : Start h.max m) (room : h.max < length m) (n : ℕ) (s : Section) (m' o' : List Edge) (r : Reached n s m' o') where
    few : r.below < total h → r.below < 2000000
    few l = omega (arith, small.inputs, small.outputs, small.ands)

    module _ (bs : List ℕ) (line : bs ≡ get_or ls n []) where
      here : bs ≡ get_or ls (r.below + 1) []
      here = line ∙ ap (λ k. get_or ls k []) r.place

      module _ (t : Section) (m'' o'' : List Edge) (step : StepChecked h r.below bs m' o' (Ok tt) t m'' o'') where
        name_more : NameLine h bs → NamesTo h ls (total h + 1) (n + 1)
        name_more l j a b = ⊎_elim (λ before. r.names j a before) (λ after. (let e : n ≡ j = omega arith in subst (λ k. NameLine h (get_or ls k [])) e (subst (NameLine h) line l))) (cases_lt j n)

        more : r.below < total h → Reached (n + 1) t m'' o''
        more l =
            let told = (step.0 l).0 in
            let i = told.0 in
            let long = r.count (omega arith) in
            record {
              items = r.items ++ (i ∷ []);
              begins = one_more h ls m starts room r.items r.begins r.below long (few l) m' r.map bs here i told.1 told.2;
              map = told.3 ∙ noted_more h ls m starts room r.items r.begins r.below long (few l) m' r.map i;
              outputs = told.4 ∙ put_more h.inputs r.items r.below o o' i long r.outputs;
              below = r.below + 1;
              place = omega (arith, r.place);
              due = (step.0 l).1;
              count = λ _. omega (arith, length_push r.items i);
              rest = λ g. omega (arith, length_push r.items i);
              names = λ j a b. absurd (omega (arith, r.place));
            }

        named : total h ≤ r.below → NameLine h bs → t ≡ Names → Reached (n + 1) t m'' o''
        named g l is =
            let told = step.1 g in
            record {
              items = r.items;
              begins = r.begins;
              map = told.1 ∙ r.map;
              outputs = told.2 ∙ r.outputs;
              below = r.below + 1;
              place = omega (arith, r.place);
              due = subst (At h (r.below + 1)) (sym is) (omega arith);
              count = λ l. absurd (omega arith);
              rest = λ _. r.rest g;
              names = name_more l;
            }

        pub turn : (t ≡ Comments → ⊥) → Reached (n + 1) t m'' o''
        turn away =
            ⊎_elim more (λ g. ⊎_elim (λ p. named g p.0 p.1) (λ p. absurd (away p.1)) (step.1 g).0) (cases_lt r.below (total h))

        pub comments : t ≡ Comments → LinesRead h ls m o (Ok tt) m'' o''
        comments is =
            ⊎_elim
            (λ l. absurd (subst (At h (r.below + 1)) is (step.0 l).1))
            (λ g.
            let told = step.1 g in
            let ends = ⊎_elim (λ p. absurd (subst (At h r.below) (sym p.1 ∙ is) g)) (λ p. sym line ∙ p.0) told.0 in (
              r.items,
              record {
                count = r.rest g;
                begins = r.begins;
                tail = record { stop = n; names = r.names; after = omega (arith, r.place); ends = inr ends };
              },
              told.1 ∙ r.map,
              told.2 ∙ r.outputs,
            ))
            (cases_lt r.below (total h))

      module _ (inside : n < length ls) (f : LineFault) (t : Section) (m'' o'' : List Edge) (step : StepChecked h r.below bs m' o' (Err f) t m'' o'') where
        in_body : r.below < total h → LinesFault h ls (record { line = n + 1; fault = f })
        in_body l =
            let long = r.count (omega arith) in
            in_line r.items f (n + 1) (omega arith) r.begins (first_bad h ls m starts room r.items r.begins r.below long (few l) m' r.map bs here f (step.0 l)) (omega (arith, r.place))

        in_names : total h ≤ r.below → LinesFault h ls (record { line = n + 1; fault = f })
        in_names g =
            let told = step.1 g in
            subst (λ d. LinesFault h ls (record { line = n + 1; fault = d })) (sym told.1)
            (in_name r.items n told.0 (n + 1) (r.rest g) r.begins (record {
              names = r.names;
              after = omega (arith, r.place);
              within = inside;
              more = λ e. told.3 (line ∙ e);
              fault = subst (λ b. NameFault h b told.0) line told.2;
            }) refl)

        pub bad : LinesRead h ls m o (Err (record { line = n + 1; fault = f })) m'' o''
        bad = (r.items, r.begins, ⊎_elim in_body in_names (cases_lt r.below (total h)), step.2 ∙ r.map, step.3 ∙ r.outputs)

    module _ (over : length ls ≤ n) where
      pub ended : s ≡ Names → LinesRead h ls m o (Ok tt) m' o'
      ended is =
          let past : total h ≤ r.below = subst (At h r.below) is r.due in
          (r.items, record { count = r.rest past; begins = r.begins; tail = record { stop = n; names = r.names; after = omega (arith, r.place); ends = inl over } }, r.map, r.outputs)

      pub too_few : (s ≡ Names → ⊥) → LinesRead h ls m o (Err (record { line = n + 1; fault = Form Other })) m' o'
      too_few away =
          let l = before_names h r.below s r.due away in
          let long = r.count (omega arith) in
          (r.items, r.begins, in_line r.items (Form Other) (n + 1) (omega arith) r.begins (missing h (length r.items) _ (get_or_past ls (1 + length r.items) [] (omega (arith, r.place)))) (omega (arith, r.place)), r.map, r.outputs)
