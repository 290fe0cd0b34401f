use Rattle.std.proofs.Common.{rules}
use Rattle.reduction.proofs.Reducing.{memory}
use Rattle.reduction.proofs.pressed.pressed.Goals as goal

pub returns-in_err-first_records : goal.returns-in_err-first_records
returns-in_err-first_records c = memory _ _ _ _ _ _ _ _ c.in_err-first_records.field-0.0 (search rules)

pub returns-in_err-first_heads : goal.returns-in_err-first_heads
returns-in_err-first_heads c = memory _ _ _ _ _ _ _ _ c.in_err-first_heads.field-0.0 (search rules)

pub returns-in_err-spare_records : goal.returns-in_err-spare_records
returns-in_err-spare_records c = memory _ _ _ _ _ _ _ _ c.in_err-spare_records.field-0.0 (search rules)

pub returns-in_err-spare_heads : goal.returns-in_err-spare_heads
returns-in_err-spare_heads c = memory _ _ _ _ _ _ _ _ c.in_err-spare_heads.field-0.0 (search rules)
