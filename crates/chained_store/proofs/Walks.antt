-- A walk along a chain, from the newest record on.
use Rattle.std.proofs.Common.{◌≡◌, ℕ, zero, suc, ◌+◌, ◌-◌, ◌<◌, ◌≤◌, true, false, cond, eqb, List, length, get_or, take, Some, None, Option, sym, refl, ap, ◌∙◌, subst, ⊎_elim, add-one, arith}
use Rattle.std.specs.Option.{option_or}
use Rattle.std.proofs.lemmas.List.{get_or_default, map_more, length-map, length-take-le}
use Rattle.std.proofs.lemmas.Bool.{cases_Bool, eqb-false, cond-true, cond-false}
use Rattle.std.proofs.lemmas.Bool.Decides.{nat_tests}
use Rattle.rules.specs.declared.pair.Pair.{Pair}
use Rattle.stores.specs.Stored.{same_pair, position}
use Rattle.stores.proofs.Positions.{or_other_none, or_other_hit, position_push}
use Rattle.chained_store.specs.declared.record.ChainRecord.{ChainRecord}
use Rattle.chained_store.specs.Chains.{no_record, target, slot, latest, Headed, Linked}
use Rattle.chained_store.specs.Chained.{record_pair, first_pairs}
use Rattle.chained_store.proofs.Slots.{same_slot}
use Rattle.chained_store.proofs.Chain.{latest_le, latest-slot}

pub length-first_pairs : (n : ℕ) (rs : List ChainRecord) → n ≤ length rs → length (first_pairs n rs) ≡ n
length-first_pairs n rs h = length-map (take n rs) record_pair ∙ length-take-le n rs h

pub position_more : (p : Pair) (n : ℕ) (rs : List ChainRecord) → n < length rs → position p (first_pairs (n + 1) rs) ≡ option_or (position p (first_pairs n rs)) (cond (same_pair (get_or rs n no_record).pair p) (Some n) None)
position_more p n rs h =
    ap (position p) (map_more record_pair rs n no_record h)
    ∙ position_push p (first_pairs n rs) (get_or rs n no_record).pair n (length-first_pairs n rs (omega arith))

-- older records of other chains do not hold the pair
pub position_latest : (m : ℕ) (p : Pair) (n : ℕ) (rs : List ChainRecord) → n ≤ length rs → position p (first_pairs n rs) ≡ position p (first_pairs (latest m rs (slot m p) n) rs)
unfolding latest
position_latest m p zero rs l = refl
position_latest m p (suc n) rs l =
    ⊎_elim
    (λ (e : eqb (slot m (get_or rs n no_record).pair) (slot m p) ≡ true).
    ap (λ (k : ℕ). position p (first_pairs k rs)) (sym (cond-true _ (suc n) (latest m rs (slot m p) n) e)))
    (λ (e : eqb (slot m (get_or rs n no_record).pair) (slot m p) ≡ false).
    let no : same_pair (get_or rs n no_record).pair p ≡ false =
    ⊎_elim (λ (t : same_pair (get_or rs n no_record).pair p ≡ true). absurd (eqb-false _ _ e (same_slot m (get_or rs n no_record).pair p t))) (λ f. f) (cases_Bool (same_pair (get_or rs n no_record).pair p)) in
    let step : position p (first_pairs (suc n) rs) ≡ option_or (position p (first_pairs n rs)) (cond (same_pair (get_or rs n no_record).pair p) (Some n) None) =
    rw add-one at (position_more p n rs (omega arith)) in
    step
    ∙ ap (option_or (position p (first_pairs n rs))) (cond-false _ (Some n) None no)
    ∙ or_other_none (position p (first_pairs n rs))
    ∙ position_latest m p n rs (omega arith)
    ∙ ap (λ (k : ℕ). position p (first_pairs k rs)) (sym (cond-false _ (suc n) (latest m rs (slot m p) n) e)))
    (cases_Bool (eqb (slot m (get_or rs n no_record).pair) (slot m p)))

-- one step of a walk along the chain of p, at record k
pub walk_step : (m : ℕ) (p : Pair) (k : ℕ) (rs : List ChainRecord) (found : Option ℕ) → k < length rs → slot m (get_or rs k no_record).pair ≡ slot m p → (get_or rs k no_record).next ≡ latest m rs (slot m (get_or rs k no_record).pair) k → option_or (position p (first_pairs (get_or rs k no_record).next rs)) (cond (same_pair (get_or rs k no_record).pair p) (Some k) found) ≡ option_or (position p (first_pairs (k + 1) rs)) found
walk_step m p k rs found l s e =
    let x = position p (first_pairs (get_or rs k no_record).next rs) in
    let y : x ≡ position p (first_pairs k rs) =
    ap (λ (j : ℕ). position p (first_pairs j rs)) (e ∙ ap (λ (h : ℕ). latest m rs h k) s) ∙ sym (position_latest m p k rs (omega arith)) in
    or_other_hit x (same_pair (get_or rs k no_record).pair p) k found
    ∙ ap (λ (o : Option ℕ). option_or (option_or o (cond (same_pair (get_or rs k no_record).pair p) (Some k) None)) found) y
    ∙ ap (λ (o : Option ℕ). option_or o found) (sym (position_more p k rs l))

-- where a link leads
pub at_target : (link k : ℕ) → Some k ≡ target link → link ≡ k + 1
at_target link k e = grind (arith, nat_tests)

pub at_end : (link : ℕ) → None ≡ target link → link ≡ 0
at_end link e = grind (arith, nat_tests)

-- A walk along the chain of p stands at a record of that chain, or at the end, and what it has yet to see decides before what it has found.
abbrev pub Walk : ℕ → List ChainRecord → ℕ → Pair → ℕ → Option ℕ → Type 0
Walk m rs len p link found =
    (link ≤ len)
    × (0 < link → slot m (get_or rs (link - 1) no_record).pair ≡ slot m p)
    × (option_or (position p (first_pairs link rs)) found ≡ position p (first_pairs len rs))

-- the same of any link that is known to be the newest of its chain
walk_at : (m : ℕ) (rs : List ChainRecord) (len n : ℕ) (p : Pair) (link : ℕ) (found : Option ℕ) → link ≡ latest m rs (slot m p) n → n ≤ len → option_or (position p (first_pairs link rs)) found ≡ position p (first_pairs len rs) → Walk m rs len p link found
walk_at m rs len n p link found e l w = (
  omega (arith, latest_le m rs (slot m p) n, e),
  (λ (h : 0 < link). ap (λ (k : ℕ). slot m (get_or rs (k - 1) no_record).pair) e ∙ latest-slot m rs (slot m p) n (subst (λ (k : ℕ). 0 < k) e h)),
  w,
)

pub walk_start : (rs : List ChainRecord) (heads : List ℕ) (len : ℕ) (p : Pair) → Headed rs heads len → slot (length heads) p < length heads → len ≤ length rs → Walk (length heads) rs len p (get_or heads (slot (length heads) p) 0) None
walk_start rs heads len p headed l room =
    let m = length heads in
    let e = headed (slot m p) l in
    walk_at m rs len len p (get_or heads (slot m p) 0) None e (omega arith)
    (or_other_none _ ∙ ap (λ (k : ℕ). position p (first_pairs k rs)) e ∙ sym (position_latest m p len rs room))

-- one step of the walk, where d is any record that stands for a read outside the list
module _ (m : ℕ) (rs : List ChainRecord) (len : ℕ) (d : ChainRecord) (linked : Linked m rs len) (room : len ≤ length rs) where
  pub next_falls : (link k : ℕ) → link ≡ k + 1 → link ≤ len → (get_or rs k d).next < link
  next_falls link k at h =
      let l : k < len = omega arith in
      let e = ap (λ (r : ChainRecord). r.next) (get_or_default rs k d no_record (omega arith)) in
      omega (arith, e, linked k l, latest_le m rs (slot m (get_or rs k no_record).pair) k)

  pub walk_next : (p : Pair) (link k : ℕ) (found next : Option ℕ) → link ≡ k + 1 → next ≡ cond (same_pair (get_or rs k d).pair p) (Some k) found → Walk m rs len p link found → Walk m rs len p (get_or rs k d).next next
  walk_next p link k found next at is w =
      let back : k + 1 ≡ link = sym at in
      let i : k ≡ link - 1 = omega arith in
      let s = ap (λ (j : ℕ). slot m (get_or rs j no_record).pair) i ∙ w.1 (omega arith) in
      let lt : k < len = omega (arith, w.0) in
      let e = linked k lt in
      subst (Walk m rs len p (get_or rs k d).next) (sym is)
      (subst (λ (r : ChainRecord). Walk m rs len p r.next (cond (same_pair r.pair p) (Some k) found)) (sym (get_or_default rs k d no_record (omega arith)))
      (walk_at m rs len k p (get_or rs k no_record).next (cond (same_pair (get_or rs k no_record).pair p) (Some k) found)
      (e ∙ ap (λ (h : ℕ). latest m rs h k) s)
      (omega arith)
      (walk_step m p k rs found (omega arith) s e ∙ ap (λ (j : ℕ). option_or (position p (first_pairs j rs)) found) back ∙ w.2)))

pub walk_end : (m : ℕ) (rs : List ChainRecord) (len : ℕ) (p : Pair) (link : ℕ) (found : Option ℕ) → link ≡ 0 → Walk m rs len p link found → found ≡ position p (first_pairs len rs)
walk_end m rs len p link found e w = ap (λ (k : ℕ). option_or (position p (first_pairs k rs)) found) (sym e) ∙ w.2
