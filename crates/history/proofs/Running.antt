-- A run, request by request.
use Rattle.std.proofs.Common.{◌≡◌, ℕ, ◌+◌, ◌<◌, ◌≤◌, min, false, ◌⊎◌, List, [], ◌∷◌, ◌++◌, map, length, get_or, take, drop, replicate, is_err, IfOk, Ok, Err, Result, sym, refl, ap, ◌∙◌, subst, inl, inr, arith, Bor}
use Rattle.std.proofs.lemmas.List.{map_push, take-append-le, take_all, take_more}
use Rattle.std.proofs.lemmas.Bool.{cases_lt, false≢true}
use Rattle.values.specs.Algebra.{BooleanAlgebra}
use Rattle.rules.specs.declared.edge.Edge.{Edge}
use Rattle.rules.specs.declared.window.Window.{Window}
use Rattle.rules.specs.declared.window.Reply.{Reply}
use Rattle.rules.specs.Lawful.{Lawful}
use Rattle.graph_model.specs.Graphs.{State}
use Rattle.graph_model.specs.WellFormed.{Well}
use Rattle.aiger_lines.specs.declared.fields.Header.{Header}
use Rattle.aiger_check.specs.declared.faults.CircuitFault.{CircuitFault}
use Rattle.aiger_check.specs.Text.{lines}
use Rattle.aiger_check.specs.Files.{HeaderAt}
use Rattle.aiger_read.specs.Reads.{Reads}
use Rattle.aiger_write.specs.Writing.{write_of, written as text_written}
use Rattle.graph_model.specs.declared.refusal.Refusal.{Refusal}
use Rattle.history_model.specs.declared.request.Inputs.{Inputs}
use Rattle.history_model.specs.declared.request.Outputs.{Outputs}
use Rattle.history_model.specs.declared.request.Request.{Request}
use Rattle.history_model.specs.declared.request.Request.TheVariants.{Read, Write, Evaluate}
use Rattle.history_model.specs.Law.{Ran}
use Rattle.history_model.proofs.Law.{law}
use Rattle.history_model.specs.Histories.{Listed, Told, read, written, valued, undefined, World, named, Headed, LastOutputs, Evaluates, Happens, loaded, saved, calculated, Moment, History}

-- a vector whose places were all lent, and came back as xs
pub refilled : {A : Type 0} (n : ℕ) (xs ys : List A) → length xs ≡ n → take n (xs ++ drop (length xs) ys) ≡ xs
refilled n xs ys h = ap (λ m. take m (xs ++ drop (length xs) ys)) (sym h) ∙ take-append-le (length xs) xs (drop (length xs) ys) (omega arith) ∙ take_all (length xs) xs (omega arith)

pub take_min : {A : Type 0} (n : ℕ) (xs : List A) → take (min n (length xs)) xs ≡ take n xs
take_min n xs = go (cases_lt (length xs) n)
  where
    go : (length xs < n) ⊎ (n ≤ length xs) → take (min n (length xs)) xs ≡ take n xs
    go (inl h) = let e : min n (length xs) ≡ length xs = omega arith in ap (λ m. take m xs) e ∙ take_all (length xs) xs (omega arith) ∙ sym (take_all n xs (omega arith))
    go (inr h) = let e : min n (length xs) ≡ n = omega arith in ap (λ m. take m xs) e

-- a file's happening, by what its parts are
pub loaded_as : {W : Type 0} {j : BooleanAlgebra W} {b : Window → Reply} {v : World} (bytes : Bor (List ℕ)) (places outs : ℕ) {r : Result ℕ CircuitFault} {t after : State} (before_map before_outputs map outputs map' outputs' last : List Edge)
    → before_map ≡ undefined places → before_outputs ≡ undefined outs
    → Reads b bytes.now v.graph before_map before_outputs r t map outputs → map' ≡ map → outputs' ≡ outputs → after ≡ t → LastOutputs bytes.now r outputs v.outputs last
    → Happens j b v (Read bytes places outs) (read r map' outputs') (record { graph = after; outputs = last })
loaded_as {j = j} {b} {v} bytes places outs {r} {t} bm bo m o m' o' last p q h e f a l =
    let P : List Edge → Type 0 = λ z. Reads b bytes.now v.graph z bo r t m o in
    let Q : List Edge → Type 0 = λ z. Reads b bytes.now v.graph (undefined places) z r t m o in
    let M : List Edge → Type 0 = λ z. Happens j b v (Read bytes places outs) (read r z o') (record { graph = t; outputs = last }) in
    let O : List Edge → Type 0 = λ z. Happens j b v (Read bytes places outs) (read r m z) (record { graph = t; outputs = last }) in
    let A : State → Type 0 = λ z. Happens j b v (Read bytes places outs) (read r m' o') (record { graph = z; outputs = last }) in
    subst A (sym a) (subst M (sym e) (subst O (sym f) (loaded (subst Q q (subst P p h)) l)))

-- a file that was taken has a header
pub reads_headed : (b : Window → Reply) (bytes : List ℕ) (s t : State) (m o m' o' : List Edge) (r : Result ℕ CircuitFault) → Reads b bytes s m o r t m' o' → Headed bytes r
reads_headed b bytes s t m o m' o' (Ok n) h = (h.0, h.2.opens.header)
reads_headed b bytes s t m o m' o' (Err f) h = tt

-- the last outputs stay where the file has no header, and change with one at hand
pub outputs_unheaded : (bytes : List ℕ) (r : Result ℕ CircuitFault) (outputs before : List Edge) → ((h : Header) → HeaderAt (lines bytes) h → ⊥) → Headed bytes r → LastOutputs bytes r outputs before before
outputs_unheaded bytes (Ok n) outputs before none h = absurd (none h.0 h.1)
outputs_unheaded bytes (Err f) outputs before none h = refl

pub outputs_change : (bytes : List ℕ) (r : Result ℕ CircuitFault) (outputs before after : List Edge) (h : Header) → HeaderAt (lines bytes) h → is_err r ≡ false → after ≡ take h.outputs outputs → LastOutputs bytes r outputs before after
outputs_change bytes (Ok n) outputs before after h at e t = (h, at, t)
outputs_change bytes (Err f) outputs before after h at e t = absurd (false≢true (sym e))

pub asked_as : {W : Type 0} {j : BooleanAlgebra W} {b : Window → Reply} {v w : World} {a : Told W} {r q : Request W} → r ≡ q → Happens j b v q a w → Happens j b v r a w
asked_as {W} {j} {b} {v} {w} {a} e h = let P : Request W → Type 0 = λ z. Happens j b v z a w in subst P (sym e) h

-- a writing's happening
pub saved_as : {W : Type 0} {j : BooleanAlgebra W} {b : Window → Reply} {v : World} {r : Request W} {os : Outputs} {room : ℕ} {a : Told W} → r ≡ Write os room → a ≡ written (write_of v.graph (named v.outputs os) (replicate room 0)) (text_written v.graph (named v.outputs os) (replicate room 0)) → Happens j b v r a v
saved_as {W} {j} {b} {v} {r} {os} {room} e h = let T : Told W → Type 0 = λ z. Happens j b v r z v in subst T (sym h) (asked_as e (saved refl refl))

-- an evaluation's happening
pub calculated_as : {W : Type 0} {j : BooleanAlgebra W} {b : Window → Reply} {v : World} {r : Request W} {a : Told W} {ins : Inputs W} {places : ℕ} {done : Result (Unit {0}) Refusal} {vs : Listed W} → r ≡ Evaluate ins places → a ≡ valued done vs → Evaluates j v.graph places done ins vs → Happens j b v r a v
calculated_as {W} {j} {b} {v} {r} e f h = let T : Told W → Type 0 = λ z. Happens j b v r z v in subst T (sym f) (asked_as e (calculated h))

pub made_to : {A E : Type 0} {P Q : A → Type 0} (r : Result A E) → ((a : A) → P a → Q a) → IfOk r P → IfOk r Q
made_to (Ok a) f h = f a h
made_to (Err e) f h = tt

-- the first requests are done: done has their answers, and w is what came of v
pub record Running {W : Type 0} (j : BooleanAlgebra W) (b : Window → Reply) (v : World) (rs : List (Request W)) (done : List (Told W)) (w : World) : Type 0 where
  pub moments : List (Moment W)
  pub history : History j b v rs moments w
  pub answered : done ≡ map (λ m. m.answer) moments

pub running_none : {W : Type 0} (j : BooleanAlgebra W) (b : Window → Reply) (v : World) → Running j b v [] [] v
running_none j b v = record { moments = []; history = refl; answered = refl }

history_push : {W : Type 0} {j : BooleanAlgebra W} {b : Window → Reply} (v w u : World) (rs : List (Request W)) (ms : List (Moment W)) (r : Request W) (a : Told W) → History j b v rs ms w → Happens j b w r a u
    → History j b v (rs ++ (r ∷ [])) (ms ++ (record { before = w; request = r; answer = a; after = u } ∷ [])) u
history_push v w u [] [] r a h d = (h, refl, d, refl)
history_push v w u [] (m ∷ ms) r a h d = absurd h
history_push v w u (q ∷ rs) [] r a h d = absurd h
history_push v w u (q ∷ rs) (m ∷ ms) r a h d = (h.0, h.1, h.2, history_push m.after w u rs ms r a h.3 d)

pub running_more : {W : Type 0} {j : BooleanAlgebra W} {b : Window → Reply} {v w u : World} {rs : List (Request W)} {done : List (Told W)} {r : Request W} {a : Told W} → Running j b v rs done w → Happens j b w r a u → Running j b v (rs ++ (r ∷ [])) (done ++ (a ∷ [])) u
running_more {v = v} {w = w} {u = u} {rs = rs} {r = r} {a = a} h d = record {
  moments = h.moments ++ (record { before = w; request = r; answer = a; after = u } ∷ []);
  history = history_push v w u rs h.moments r a h.history d;
  answered = ap (λ z. z ++ (a ∷ [])) h.answered ∙ sym (map_push (λ m. m.answer) h.moments (record { before = w; request = r; answer = a; after = u }));
}

-- the same by what the code knows: the rules are those of the start, and the lists are named
pub running_next : {R W : Type 0} (j : BooleanAlgebra W) (replies : R → Window → Reply) (start here : R) (v w u : World) (rs rs' : List (Request W)) (done done' : List (Told W)) (r : Request W) (a : Told W)
    → here ≡ start → Running j (replies start) v rs done w → Happens j (replies here) w r a u → rs' ≡ rs ++ (r ∷ []) → done' ≡ done ++ (a ∷ []) → Running j (replies start) v rs' done' u
running_next {R} {W} j replies start here v w u rs rs' done done' r a e h d p q =
    let P : R → Type 0 = λ z. Happens j (replies z) w r a u in
    let Q : List (Request W) → Type 0 = λ z. Running j (replies start) v z done' u in
    let D : List (Told W) → Type 0 = λ z. Running j (replies start) v (rs ++ (r ∷ [])) z u in
    subst Q (sym p) (subst D (sym q) (running_more h (subst P e d)))

-- one request more, where it is known by what stands at its place
pub next_request : {W : Type 0} (rs : List (Request W)) (i : ℕ) (r : Request W) → i < length rs → r ≡ get_or rs i r → take (i + 1) rs ≡ take i rs ++ (r ∷ [])
next_request rs i r l e = take_more rs i r l ∙ ap (λ z. take i rs ++ (z ∷ [])) (sym e)

-- all requests are done: the run is a history from v', and the law holds of it
pub ran : {R V W : Type 0} (k : BooleanAlgebra V) (j : BooleanAlgebra W) (replies : R → Window → Reply) (lawful : (r : R) → Lawful (replies r)) (start here rules : R) (v v' w : World) (rs done_requests : List (Request W)) (done : List (Told W))
    → start ≡ rules → here ≡ start → v ≡ v' → done_requests ≡ rs → Well (replies start) v.graph → Running j (replies start) v done_requests done w
    → Ran k j (replies rules) v' rs done w.graph × (here ≡ rules)
ran {R} {W = W} k j replies lawful start here rules v v' w rs ds done e f p q well h =
    let P : R → Type 0 = λ z. Running j (replies z) v ds done w in
    let Q : World → Type 0 = λ z. Running j (replies rules) z ds done w in
    let D : List (Request W) → Type 0 = λ z. Running j (replies rules) v' z done w in
    let r = subst D q (subst Q p (subst P e h)) in
    let S : R → Type 0 = λ z. Well (replies z) v.graph in
    let N : World → Type 0 = λ z. Well (replies rules) z.graph in
    let begins = subst N p (subst S e well) in (
      record {
        moments = r.moments;
        last = w;
        history = r.history;
        answered = r.answered;
        graph = refl;
        law = law k j (replies rules) (lawful rules) rs r.moments v' w begins r.history;
      },
      f ∙ e,
    )
