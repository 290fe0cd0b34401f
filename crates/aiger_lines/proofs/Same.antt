-- A line is read in one way only, and so are many.
use Rattle.std.proofs.Common.{◌≡◌, ℕ, List, [], ◌∷◌, length, sym, ap, ◌∙◌, subst, ⊎_elim, arith}
use Rattle.aiger_lines.specs.declared.number.DigitFault.{DigitFault}
use Rattle.aiger_lines.proofs.Unique.{number_unique, no_fault}
use Rattle.aiger_lines.specs.Forms.{Starts, Has, Lacks, form}

pub tail_same : (b c : ℕ) (bs r s : List ℕ) → Starts b bs r → Starts c bs s → r ≡ s
tail_same b c bs r s p q = cc

pub has_unique : (ends bs vs ws : List ℕ) → Has (form ends) bs vs → Has (form ends) bs ws → vs ≡ ws
has_unique [] bs vs ws h k = h.1 ∙ sym k.1
has_unique (b ∷ ends) bs [] ws h k = absurd h
has_unique (b ∷ ends) bs (v ∷ vs) [] h k = absurd k
has_unique (b ∷ ends) bs (v ∷ vs) (w ∷ ws) h k =
    let u = number_unique bs v w h.0 k.0 h.1 k.1 in
    let t = tail_same b b h.0 h.2.0 k.2.0 h.2.1 (u.1 ∙ k.2.1) in
    let rest = has_unique ends h.2.0 vs ws h.2.2 (subst (λ l. Has (form ends) l ws) (sym t) k.2.2) in
    λ i. u.0 i ∷ rest i

pub has_lacks : (ends bs vs : List ℕ) (e : DigitFault) → Has (form ends) bs vs → Lacks (form ends) bs e → ⊥
has_lacks [] bs vs e h f = omega (arith, f.0, ap length h.0)
has_lacks (b ∷ ends) bs [] e h f = h
has_lacks (b ∷ ends) bs (v ∷ vs) e h f =
    ⊎_elim
    (no_fault bs v h.0 h.1 e)
    (λ n.
    let u = number_unique bs v n.0 h.0 n.1 h.1 n.2 in
    ⊎_elim
    (λ bad. bad.1 h.2.0 (sym u.1 ∙ h.2.1))
    (λ on.
    let t = tail_same b b h.0 h.2.0 on.0 h.2.1 (u.1 ∙ on.1) in
    has_lacks ends h.2.0 vs e h.2.2 (subst (λ l. Lacks (form ends) l e) (sym t) on.2))
    n.3)
    f
