-- The values of every node, after an evaluation that was not refused.
use Rattle.std.proofs.Common.{◌≡◌, ℕ, Bool, true, false, is_err, List, ◌++◌, length, Err, Result, sym, refl, ap, ◌∙◌, append-nil, arith}
use Rattle.std.proofs.lemmas.Bool.{cond-true, cond-false, false≢true}
use Rattle.std.proofs.lemmas.List.{drop_all}
use Rattle.values.specs.declared.block.Block.{Block}
use Rattle.values.specs.Blocks.{block_algebra}
use Rattle.rules.specs.declared.window.Window.{Window}
use Rattle.rules.specs.declared.window.Reply.{Reply}
use Rattle.graph_model.specs.declared.refusal.Refusal.{Refusal}
use Rattle.graph_model.specs.declared.refusal.Refusal.TheVariants.{Values}
use Rattle.graph_model.specs.Graphs.{State, nodes, node_values}
use Rattle.questions.specs.Evaluation.{assigned, suits, evaluation, evaluated}
use Rattle.workloads.specs.Growths.{grown_to}

-- a growth by what its parts are equal to
pub grown_as : (b c : Window → Reply) (m : ℕ) (s t : State) (x y : ℕ) → b ≡ c → s ≡ t → x ≡ y → grown_to b m s x ≡ grown_to c m t y
grown_as b c m s t x y e f h = ap (λ z. grown_to z m s x) e ∙ ap (λ z. grown_to c m z x) f ∙ ap (grown_to c m t) h

pub filled : (s : State) (ins old new : List Block) (r : Result (Unit {0}) Refusal) → r ≡ evaluation s (length ins) (length old) → is_err r ≡ false → length old ≡ nodes s → new ≡ evaluated block_algebra s ins old → new ≡ node_values block_algebra (assigned block_algebra ins) s
filled s ins old new r answer fine long e = go (suits s (length ins) (length old)) refl
  where
    go : (b : Bool) → suits s (length ins) (length old) ≡ b → new ≡ node_values block_algebra (assigned block_algebra ins) s
    go true h = e ∙ cond-true _ _ _ h ∙ ap (λ z. node_values block_algebra (assigned block_algebra ins) s ++ z) (drop_all (nodes s) old (omega (arith, long))) ∙ append-nil _
    go false h =
        let refusal : r ≡ Err Values = answer ∙ cond-false _ _ _ h in
        absurd (false≢true (sym fine ∙ ap is_err refusal))
