use Rattle.std.proofs.Common.{◌≡◌, length}
use Rattle.box_program.specs.inner.BoxPrograms.{AreBoxColumns}
use Rattle.box_program.proofs.columns.cap_columns.Given as goal

-- the columns of the greatest counts so far
abbrev pub invariant-loop-k : goal.invariant-loop-k
invariant-loop-k l = AreBoxColumns (length l.rows.bounds) l.columns × (length l.columns ≡ l.k)
