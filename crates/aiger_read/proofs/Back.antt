-- The written text is taken, and says the circuit that was written.
use Rattle.std.proofs.Common.{◌≡◌, ℕ, suc, ◌+◌, ◌^◌, ◌<◌, ◌≤◌, eqb, List, [], ◌∷◌, ◌++◌, map, length, get_or, codes, decimal, sym, refl, ap, ◌∙◌, subst, inl, append_assoc, arith}
use Rattle.std.specs.List.{flat_map}
use Rattle.std.proofs.lemmas.Fmt.{digits_decimal}
use Rattle.std.proofs.lemmas.List.{get_or-map, length-map}
use Rattle.std.proofs.lemmas.Bool.{cond-true, cond-false, ne_eqb, lt-ltb, le-ltb}
use Rattle.aiger_lines.specs.Numbers.{AllDigits}
use Rattle.aiger_lines.proofs.Digit.{own}
use Rattle.aiger_lines.specs.Forms.{Has, form}
use Rattle.aiger_lines.specs.declared.fields.Header.{Header}
use Rattle.aiger_check.specs.Text.{lines, onto}
use Rattle.aiger_check.specs.Circuits.{Item, input, output, gate, numbers, total, Due, ends, Says, Literals, nothing}
use Rattle.aiger_check.specs.Files.{HeaderLine, Holds, Taken}
use Rattle.aiger_write.specs.Texts.{line_text, item_text, text}
use Rattle.aiger_read.specs.RoundTrip.{WellFormed}

-- numbers, each followed by its byte
abbrev fields_text : List ℕ → List ℕ → List ℕ
fields_text [] vs = []
fields_text (e ∷ es) [] = []
fields_text (e ∷ es) (v ∷ vs) = decimal v ++ (e ∷ fields_text es vs)

abbrev item_ends : Item → List ℕ
item_ends (input v) = codes "\n"
item_ends (output v) = codes "\n"
item_ends (gate a b c) = codes "  \n"

abbrev item_fields : Item → List ℕ
item_fields i = fields_text (item_ends i) (numbers i)

abbrev header_fields : Header → List ℕ
header_fields h = codes "aag " ++ fields_text (codes "    \n") (h.max ∷ h.inputs ∷ h.latches ∷ h.outputs ∷ h.ands ∷ [])

abbrev by_fields : Header → List Item → List ℕ
by_fields h is = header_fields h ++ flat_map item_fields is

item_same : (i : Item) → item_fields i ≡ item_text i
unfolding line_text
item_same (input v) = refl
item_same (output v) = refl
item_same (gate a b c) = refl

items_same : (is : List Item) → flat_map item_fields is ≡ flat_map item_text is
items_same [] = refl
items_same (i ∷ is) = λ j. item_same i j ++ items_same is j

-- the same text
text_same : (h : Header) (is : List Item) → by_fields h is ≡ text h is
unfolding line_text
text_same h is = ap (λ r. header_fields h ++ r) (items_same is)

-- no byte ends a line
abbrev Clean : List ℕ → Type 0
Clean [] = Unit {0}
Clean (b ∷ bs) = (b ≡ 10 → ⊥) × Clean bs

clean_digits : (ds : List ℕ) → AllDigits ds → Clean ds
clean_digits [] a = tt
clean_digits (d ∷ ds) a = ((λ e. omega (arith, (a 0 (omega arith)).0)), clean_digits ds (λ k l. a (suc k) (omega arith)))

clean_decimal : (v : ℕ) → v < 10 ^ 7 → Clean (decimal v)
clean_decimal v l = clean_digits (decimal v) (digits_decimal own v (omega arith))

clean_front : (p xs l : List ℕ) (ls : List (List ℕ)) → Clean p → lines xs ≡ l ∷ ls → lines (p ++ xs) ≡ (p ++ l) ∷ ls
clean_front [] xs l ls c e = e
clean_front (b ∷ p) xs l ls c e = cond-false (eqb b 10) _ _ (ne_eqb b 10 c.0) ∙ ap (onto b) (clean_front p xs l ls c.1 e)

-- bytes that are no digits, the last of which ends the line, and no other
abbrev Seps : List ℕ → Type 0
Seps [] = ⊥
Seps (e ∷ []) = e ≡ 10
Seps (e ∷ f ∷ es) = (e ≡ 10 → ⊥) × Seps (f ∷ es)

abbrev Short : List ℕ → Type 0
Short [] = Unit {0}
Short (v ∷ vs) = (v < 10 ^ 7) × Short vs

cut_fields : (es vs rest : List ℕ) → Seps es → Short vs → length es ≡ length vs → lines (fields_text es vs ++ rest) ≡ fields_text es vs ∷ lines rest
cut_fields [] vs rest s h l = absurd s
cut_fields (e ∷ []) [] rest s h l = absurd (omega arith)
cut_fields (e ∷ []) (v ∷ []) rest s h l =
    ap lines (append_assoc (decimal v) (e ∷ []) rest)
    ∙ clean_front (decimal v) (e ∷ rest) (e ∷ []) (lines rest) (clean_decimal v h.0) (subst (λ b. lines (b ∷ rest) ≡ (b ∷ []) ∷ lines rest) (sym s) refl)
cut_fields (e ∷ []) (v ∷ w ∷ vs) rest s h l = absurd (omega arith)
cut_fields (e ∷ f ∷ es) [] rest s h l = absurd (omega arith)
cut_fields (e ∷ f ∷ es) (v ∷ vs) rest s h l =
    ap lines (append_assoc (decimal v) (e ∷ fields_text (f ∷ es) vs) rest)
    ∙ clean_front (decimal v) (e ∷ (fields_text (f ∷ es) vs ++ rest)) (e ∷ fields_text (f ∷ es) vs) (lines rest) (clean_decimal v h.0)
    (clean_front (e ∷ []) (fields_text (f ∷ es) vs ++ rest) (fields_text (f ∷ es) vs) (lines rest) (s.0, tt) (cut_fields (f ∷ es) vs rest s.1 h.1 (omega arith)))

-- each separator is no digit
abbrev Marks : List ℕ → Type 0
Marks [] = Unit {0}
Marks (e ∷ es) = (e < 48) × Marks es

has_fields : (es vs : List ℕ) → Marks es → Short vs → length es ≡ length vs → Has (form es) (fields_text es vs) vs
has_fields [] [] m h l = (refl, refl)
has_fields [] (v ∷ vs) m h l = absurd (omega arith)
has_fields (e ∷ es) [] m h l = absurd (omega arith)
has_fields (e ∷ es) (v ∷ vs) m h l =
    (e ∷ fields_text es vs, record { text = refl; short = h.0; whole = λ some d. omega (arith, d.0, m.0) }, (fields_text es vs, refl, has_fields es vs m.1 h.1 (omega arith)))

short_item : (max : ℕ) (i : Item) → max ≤ 1004096 → Literals max i → Short (numbers i)
short_item max (input v) l p = (omega (arith, p.top), tt)
short_item max (output v) l p = (omega arith, tt)
short_item max (gate a b c) l p = (omega (arith, p.0.top), (omega (arith, p.1), (omega (arith, p.2), tt)))

one_end : Seps (codes "\n")
one_end = refl

three_ends : Seps (codes "  \n")
three_ends = ((λ e. omega arith), ((λ e. omega arith), refl))

item_seps : (i : Item) → Seps (item_ends i)
item_seps (input v) = one_end
item_seps (output v) = one_end
item_seps (gate a b c) = three_ends

item_marks : (i : Item) → Marks (item_ends i)
item_marks (input v) = (omega arith, tt)
item_marks (output v) = (omega arith, tt)
item_marks (gate a b c) = (omega arith, (omega arith, (omega arith, tt)))

item_fit : (i : Item) → length (item_ends i) ≡ length (numbers i)
item_fit (input v) = refl
item_fit (output v) = refl
item_fit (gate a b c) = refl

abbrev AllShort : List Item → Type 0
AllShort [] = Unit {0}
AllShort (i ∷ is) = Short (numbers i) × AllShort is

lines_items : (is : List Item) → AllShort is → lines (flat_map item_fields is) ≡ map item_fields is
lines_items [] a = refl
lines_items (i ∷ is) a = cut_fields (item_ends i) (numbers i) (flat_map item_fields is) (item_seps i) a.0 (item_fit i) ∙ ap (λ ls. item_fields i ∷ ls) (lines_items is a.1)

all_short : (max : ℕ) (is : List Item) → max ≤ 1004096 → ((k : ℕ) → k < length is → Literals max (get_or is k nothing)) → AllShort is
all_short max [] l a = tt
all_short max (i ∷ is) l a = (short_item max i l (a 0 (omega arith)), all_short max is l (λ k h. a (suc k) (omega arith)))

due_ends : (h : Header) (k : ℕ) (i : Item) → Due h k i → ends h k ≡ item_ends i
due_ends h k (input v) d = cond-true _ _ _ (lt-ltb k (h.inputs + h.outputs) (omega arith))
due_ends h k (output v) d = cond-true _ _ _ (lt-ltb k (h.inputs + h.outputs) d.1)
due_ends h k (gate a b c) d = cond-false _ _ _ (le-ltb k (h.inputs + h.outputs) d)

module _ (h : Header) (is : List Item) (w : WellFormed h is) where
  short_five : Short (h.max ∷ h.inputs ∷ h.latches ∷ h.outputs ∷ h.ands ∷ [])
  short_five =
      let s = w.within.small in
      (omega (arith, s.max), (omega (arith, s.inputs), (omega (arith, w.latches), (omega (arith, s.outputs), (omega (arith, s.ands), tt)))))

  shorts : AllShort is
  shorts = all_short h.max is w.within.small.max (λ k l. (w.good k l).literals)

  all_lines : lines (by_fields h is) ≡ header_fields h ∷ map item_fields is
  all_lines =
      clean_front (codes "aag ") (fields_text (codes "    \n") (h.max ∷ h.inputs ∷ h.latches ∷ h.outputs ∷ h.ands ∷ []) ++ flat_map item_fields is) (fields_text (codes "    \n") (h.max ∷ h.inputs ∷ h.latches ∷ h.outputs ∷ h.ands ∷ [])) (lines (flat_map item_fields is))
      ((λ e. omega arith), ((λ e. omega arith), ((λ e. omega arith), ((λ e. omega arith), tt))))
      (cut_fields (codes "    \n") (h.max ∷ h.inputs ∷ h.latches ∷ h.outputs ∷ h.ands ∷ []) (flat_map item_fields is) ((λ e. omega arith), ((λ e. omega arith), ((λ e. omega arith), ((λ e. omega arith), refl)))) short_five refl)
      ∙ ap (λ ls. header_fields h ∷ ls) (lines_items is shorts)

  line_at : (k : ℕ) → k < length is → get_or (lines (by_fields h is)) (1 + k) [] ≡ item_fields (get_or is k nothing)
  line_at k l =
      let e : 1 + k ≡ suc k = omega arith in
      (λ i. get_or (all_lines i) (e i) []) ∙ get_or-map item_fields is k nothing [] l

  says_at : (k : ℕ) → k < length is → Says h k (get_or (lines (by_fields h is)) (1 + k) []) (get_or is k nothing)
  says_at k l =
      record {
        due = w.due k l;
        reads = subst (λ bs. Has (form (ends h k)) bs (numbers (get_or is k nothing))) (sym (line_at k l))
            (subst (λ es. Has (form es) (item_fields (get_or is k nothing)) (numbers (get_or is k nothing))) (sym (due_ends h k (get_or is k nothing) (w.due k l)))
            (has_fields (item_ends (get_or is k nothing)) (numbers (get_or is k nothing)) (item_marks (get_or is k nothing)) (short_item h.max (get_or is k nothing) w.within.small.max (w.good k l).literals) (item_fit (get_or is k nothing))));
      }

  header_at : HeaderLine (get_or (lines (by_fields h is)) 0 []) h
  header_at = record {
    rest = fields_text (codes "    \n") (h.max ∷ h.inputs ∷ h.latches ∷ h.outputs ∷ h.ands ∷ []);
    starts = ap (λ ls. get_or ls 0 []) all_lines;
    numbers = has_fields (codes "    \n") (h.max ∷ h.inputs ∷ h.latches ∷ h.outputs ∷ h.ands ∷ []) (omega arith, (omega arith, (omega arith, (omega arith, (omega arith, tt))))) short_five refl;
  }

  count_lines : length (lines (by_fields h is)) ≡ total h + 1
  count_lines = ap length all_lines ∙ ap suc (length-map is item_fields ∙ w.count) ∙ omega arith

  taken_fields : (places outs : ℕ) → length (by_fields h is) ≤ 1048576 → Holds places outs h → Taken (by_fields h is) h.inputs places outs h is
  taken_fields places outs short room = record {
    opens = record { short = short; header = header_at; latches = w.latches; within = w.within; inputs = refl; room = room };
    whole = record {
      count = w.count;
      begins = λ k l. record { says = says_at k l; good = w.good k l };
      tail = record { stop = total h + 1; names = λ j a b. absurd (omega arith); after = omega arith; ends = inl (omega (arith, count_lines)) };
    };
    outputs = w.outputs;
  }

  pub taken : (places outs : ℕ) → length (text h is) ≤ 1048576 → Holds places outs h → Taken (text h is) h.inputs places outs h is
  taken places outs short room = subst (λ bs. Taken bs h.inputs places outs h is) (text_same h is) (taken_fields places outs (omega (arith, ap length (text_same h is))) room)
