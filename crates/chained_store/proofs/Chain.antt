-- Chains of records with one hash: what an append and a truncation make of them.
use Rattle.std.proofs.Common.{◌≡◌, ℕ, zero, suc, ◌+◌, ◌-◌, ◌<◌, ◌≤◌, true, false, cond, eqb, ◌≢◌, List, length, get_or, set, sym, refl, ap, ◌∙◌, subst, ⊎_elim, add-one, arith}
use Rattle.std.proofs.lemmas.List.{get_or_default, get_or-set_same, get_or-set_other, length-set}
use Rattle.std.proofs.lemmas.Bool.{cases_Bool, cases_eq, eqb-true, eq-eqb, ne_eqb, cond-true, cond-false, cases_lt}
use Rattle.rules.specs.declared.pair.Pair.{Pair}
use Rattle.chained_store.specs.declared.record.ChainRecord.{ChainRecord}
use Rattle.chained_store.specs.Chains.{no_record, slot, latest, Headed, Linked}

-- the newest record of a chain

pub latest_same : (m : ℕ) (rs : List ChainRecord) (h n : ℕ) → slot m (get_or rs n no_record).pair ≡ h → latest m rs h (n + 1) ≡ n + 1
unfolding latest
latest_same m rs h n e = rw add-one (cond-true _ _ _ (eq-eqb _ _ e))

pub latest_other : (m : ℕ) (rs : List ChainRecord) (h n : ℕ) → (slot m (get_or rs n no_record).pair ≡ h → ⊥) → latest m rs h (n + 1) ≡ latest m rs h n
unfolding latest
latest_other m rs h n e = rw add-one (cond-false _ _ _ (ne_eqb _ _ e))

pub latest_le : (m : ℕ) (rs : List ChainRecord) (h n : ℕ) → latest m rs h n ≤ n
unfolding latest
latest_le m rs h zero = omega arith
latest_le m rs h (suc n) =
    let ih = latest_le m rs h n in
    elim (eqb (slot m (get_or rs n no_record).pair) h) as (λ b. cond b (suc n) (latest m rs h n) ≤ suc n)
    [ true ↦ omega arith | false ↦ omega arith ]

pub latest-slot : (m : ℕ) (rs : List ChainRecord) (h n : ℕ) → 0 < latest m rs h n → slot m (get_or rs (latest m rs h n - 1) no_record).pair ≡ h
unfolding latest
latest-slot m rs h zero l = absurd (omega arith)
latest-slot m rs h (suc n) l =
    ⊎_elim
    (λ (e : eqb (slot m (get_or rs n no_record).pair) h ≡ true).
    let i : latest m rs h (suc n) - 1 ≡ n = omega (arith, cond-true _ (suc n) (latest m rs h n) e) in
    ap (λ (k : ℕ). slot m (get_or rs k no_record).pair) i ∙ eqb-true _ _ e)
    (λ (e : eqb (slot m (get_or rs n no_record).pair) h ≡ false).
    let i : latest m rs h (suc n) ≡ latest m rs h n = cond-false _ (suc n) (latest m rs h n) e in
    ap (λ (k : ℕ). slot m (get_or rs (k - 1) no_record).pair) i ∙ latest-slot m rs h n (subst (λ (k : ℕ). 0 < k) i l))
    (cases_Bool (eqb (slot m (get_or rs n no_record).pair) h))

pub latest-set : (m : ℕ) (rs : List ChainRecord) (h n i : ℕ) (r : ChainRecord) → n ≤ i → latest m (set rs i r) h n ≡ latest m rs h n
unfolding latest
latest-set m rs h zero i r l = refl
latest-set m rs h (suc n) i r l =
    let ne : n ≢ i = omega arith in
    let e : get_or (set rs i r) n no_record ≡ get_or rs n no_record = get_or-set_other rs i n r no_record ne in
    let ih : latest m (set rs i r) h n ≡ latest m rs h n = latest-set m rs h n i r (omega arith) in
    ap (λ (x : ChainRecord). cond (eqb (slot m x.pair) h) (suc n) (latest m (set rs i r) h n)) e
    ∙ ap (λ (k : ℕ). cond (eqb (slot m (get_or rs n no_record).pair) h) (suc n) k) ih

-- no record: every chain is empty

pub headed_none : (m : ℕ) (rs : List ChainRecord) (heads : List ℕ) → ((j : ℕ) → j < m → get_or heads j 0 ≡ 0) → (j : ℕ) → j < m → get_or heads j 0 ≡ latest m rs j 0
unfolding latest
headed_none m rs heads all = all

-- one record more, linked before the others of its chain

headed_more : (m : ℕ) (rs : List ChainRecord) (heads : List ℕ) (len : ℕ) (r : ChainRecord) (h : ℕ) → m ≡ length heads → ((j : ℕ) → j < m → get_or heads j 0 ≡ latest m rs j len) → len < length rs → h ≡ slot m r.pair → (j : ℕ) → j < m → get_or (set heads h (len + 1)) j 0 ≡ latest m (set rs len r) j (len + 1)
headed_more m rs heads len r h long old room e j l =
    let here : get_or (set rs len r) len no_record ≡ r = get_or-set_same rs len r no_record room in
    let at : slot m (get_or (set rs len r) len no_record).pair ≡ h = ap (λ (x : ChainRecord). slot m x.pair) here ∙ sym e in
    ⊎_elim
    (λ (same : j ≡ h).
    let lt : h < length heads = omega arith in
    ap (λ (i : ℕ). get_or (set heads h (len + 1)) i 0) same
    ∙ get_or-set_same heads h (len + 1) 0 lt
    ∙ sym (latest_same m (set rs len r) j len (at ∙ sym same)))
    (λ (other : j ≡ h → ⊥).
    get_or-set_other heads h j (len + 1) 0 other
    ∙ old j l
    ∙ sym (latest-set m rs j len len r (omega arith))
    ∙ sym (latest_other m (set rs len r) j len (λ f. other (sym f ∙ at))))
    (cases_eq j h)

linked_more : (m : ℕ) (rs : List ChainRecord) (len : ℕ) (r : ChainRecord) → Linked m rs len → len < length rs → r.next ≡ latest m rs (slot m r.pair) len → Linked m (set rs len r) (len + 1)
linked_more m rs len r old room e k l =
    ⊎_elim
    (λ (below : k < len).
    let ne : k ≢ len = omega arith in
    let f : get_or (set rs len r) k no_record ≡ get_or rs k no_record = get_or-set_other rs len k r no_record ne in
    ap (λ (x : ChainRecord). x.next) f
    ∙ old k below
    ∙ sym (latest-set m rs (slot m (get_or rs k no_record).pair) k len r (omega arith))
    ∙ ap (λ (x : ChainRecord). latest m (set rs len r) (slot m x.pair) k) (sym f))
    (λ (above : len ≤ k).
    let is : k ≡ len = omega arith in
    let f : get_or (set rs len r) k no_record ≡ r = ap (λ (i : ℕ). get_or (set rs len r) i no_record) is ∙ get_or-set_same rs len r no_record room in
    ap (λ (x : ChainRecord). x.next) f
    ∙ e
    ∙ sym (latest-set m rs (slot m r.pair) len len r (omega arith))
    ∙ ap (λ (i : ℕ). latest m (set rs len r) (slot m r.pair) i) (sym is)
    ∙ ap (λ (x : ChainRecord). latest m (set rs len r) (slot m x.pair) k) (sym f))
    (cases_lt k len)

-- one record less: its head leads to the one before it

headed_less : (m : ℕ) (rs : List ChainRecord) (heads : List ℕ) (n h : ℕ) → m ≡ length heads → ((j : ℕ) → j < m → get_or heads j 0 ≡ latest m rs j (n + 1)) → Linked m rs (n + 1) → h ≡ slot m (get_or rs n no_record).pair → (j : ℕ) → j < m → get_or (set heads h (get_or rs n no_record).next) j 0 ≡ latest m rs j n
headed_less m rs heads n h long old linked e j l =
    ⊎_elim
    (λ (same : j ≡ h).
    let lt : h < length heads = omega arith in
    ap (λ (i : ℕ). get_or (set heads h (get_or rs n no_record).next) i 0) same
    ∙ get_or-set_same heads h (get_or rs n no_record).next 0 lt
    ∙ linked n (omega arith)
    ∙ ap (λ (i : ℕ). latest m rs i n) (sym (same ∙ e)))
    (λ (other : j ≡ h → ⊥).
    get_or-set_other heads h j (get_or rs n no_record).next 0 other
    ∙ old j l
    ∙ latest_other m rs j n (λ f. other (sym (e ∙ f))))
    (cases_eq j h)

-- the same in the words of the invariant, for the list of heads that was written

module _ (rs : List ChainRecord) (heads : List ℕ) (h v : ℕ) where
  abbrev Here : ℕ → ℕ → Type 0
  Here m len = (j : ℕ) → j < m → get_or (set heads h v) j 0 ≡ latest m rs j len

  headed_written : (len : ℕ) → Here (length heads) len → Headed rs (set heads h v) len
  headed_written len all = subst (λ (m : ℕ). Here m len) (sym (length-set heads h v)) all

  linked_written : (len : ℕ) → Linked (length heads) rs len → Linked (length (set heads h v)) rs len
  linked_written len all = subst (λ (m : ℕ). Linked m rs len) (sym (length-set heads h v)) all

pub headed_append : (rs : List ChainRecord) (heads : List ℕ) (len : ℕ) (r : ChainRecord) (h : ℕ) → Headed rs heads len → len < length rs → h ≡ slot (length heads) r.pair → Headed (set rs len r) (set heads h (len + 1)) (len + 1)
headed_append rs heads len r h old room e = headed_written (set rs len r) heads h (len + 1) (len + 1) (headed_more (length heads) rs heads len r h refl old room e)

pub linked_append : (rs : List ChainRecord) (heads : List ℕ) (len : ℕ) (p : Pair) (h : ℕ) → Headed rs heads len → Linked (length heads) rs len → len < length rs → h ≡ slot (length heads) p → h < length heads → Linked (length (set heads h (len + 1))) (set rs len record { pair = p; next = get_or heads h 0 }) (len + 1)
linked_append rs heads len p h headed linked room e l =
    let r : ChainRecord = record { pair = p; next = get_or heads h 0 } in
    linked_written (set rs len r) heads h (len + 1) (len + 1)
    (linked_more (length heads) rs len r linked room (headed h l ∙ ap (λ (i : ℕ). latest (length heads) rs i len) e))

-- d is any record that stands for a read outside the list
pub headed_truncate : (rs : List ChainRecord) (heads : List ℕ) (len h : ℕ) (d : ChainRecord) → 0 < len → len ≤ length rs → Headed rs heads len → Linked (length heads) rs len → h ≡ slot (length heads) (get_or rs (len - 1) d).pair → Headed rs (set heads h (get_or rs (len - 1) d).next) (len - 1)
headed_truncate rs heads len h d pos room headed linked e =
    let back : len ≡ len - 1 + 1 = omega arith in
    let read : get_or rs (len - 1) d ≡ get_or rs (len - 1) no_record = get_or_default rs (len - 1) d no_record (omega arith) in
    headed_written rs heads h (get_or rs (len - 1) d).next (len - 1)
    (subst (λ (v : ℕ). (j : ℕ) → j < length heads → get_or (set heads h v) j 0 ≡ latest (length heads) rs j (len - 1)) (ap (λ (r : ChainRecord). r.next) (sym read))
    (headed_less (length heads) rs heads (len - 1) h refl (subst (Headed rs heads) back headed) (subst (Linked (length heads) rs) back linked) (e ∙ ap (λ (r : ChainRecord). slot (length heads) r.pair) read)))

pub linked_truncate : (rs : List ChainRecord) (heads : List ℕ) (len h v : ℕ) → Linked (length heads) rs len → Linked (length (set heads h v)) rs (len - 1)
linked_truncate rs heads len h v linked = linked_written rs heads h v (len - 1) (λ k l. linked k (omega arith))

-- a write past the last record

pub headed_past : (rs : List ChainRecord) (heads : List ℕ) (len : ℕ) (r : ChainRecord) → Headed rs heads len → Headed (set rs len r) heads len
headed_past rs heads len r old j l = old j l ∙ sym (latest-set (length heads) rs j len len r (omega arith))

pub linked_past : (m : ℕ) (rs : List ChainRecord) (len : ℕ) (r : ChainRecord) → Linked m rs len → Linked m (set rs len r) len
linked_past m rs len r old k l =
    let ne : k ≢ len = omega arith in
    let f : get_or (set rs len r) k no_record ≡ get_or rs k no_record = get_or-set_other rs len k r no_record ne in
    ap (λ (x : ChainRecord). x.next) f
    ∙ old k l
    ∙ sym (latest-set m rs (slot m (get_or rs k no_record).pair) k len r (omega arith))
    ∙ ap (λ (x : ChainRecord). latest m (set rs len r) (slot m x.pair) k) (sym f)
