-- What the node stores are called.
-- The names are written out.
use Rattle.std.specs.Prelude.{ℕ, List, codes}
use Rattle.workloads.specs.declared.kind.Kind.{Kind}
use Rattle.workloads.specs.declared.kind.Kind.TheVariants.{Scan, Chained}

abbrev pub name : Kind → List ℕ
name Scan = codes "scan store"
name Chained = codes "chained store"
