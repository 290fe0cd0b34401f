-- How many nodes a graph has after an answer.
-- Counts.antt holds it against the graph itself.
use Rattle.std.specs.Prelude.{ℕ, ◌+◌, Bool, true, false, min, Ok, Err, if◌then◌else◌}
use Rattle.graph_model.specs.declared.refusal.Refusal.{Refusal}
use Rattle.graph_model.specs.declared.refusal.Refusal.TheVariants as refusal
use Rattle.aiger_check.specs.declared.faults.CircuitFault.{CircuitFault}
use Rattle.aiger_check.specs.declared.faults.CircuitFault.TheVariants as fault
use Rattle.aiger_check.specs.declared.faults.LineFault.{LineFault}
use Rattle.aiger_check.specs.declared.faults.LineFault.TheVariants as line_fault
use Rattle.history_model.specs.Histories.{Told, anded, applied, read}

abbrev pub is_full : Refusal → Bool
is_full refusal.Full = true
is_full c = false

abbrev pub is_full_line : LineFault → Bool
is_full_line line_fault.Full = true
is_full_line f = false

abbrev pub is_full_file : CircuitFault → Bool
is_full_file (fault.Line f) = is_full_line f.fault
is_full_file f = false

-- the nodes that a graph has after an answer, of n before it and at most `limit`: a full store is at its limit, and other refusals add nothing
abbrev pub size_after : {W : Type 0} → ℕ → ℕ → Told W → ℕ
size_after limit n (anded (Ok a)) = min (n + (if a.1 then 1 else 0)) limit
size_after limit n (anded (Err c)) = if is_full c then limit else n
size_after limit n (applied (Ok a)) = min (n + a.1) limit
size_after limit n (applied (Err c)) = if is_full c then limit else n
size_after limit n (read (Ok k) map outputs) = min (n + k) limit
size_after limit n (read (Err f) map outputs) = if is_full_file f then limit else n
size_after limit n a = n
