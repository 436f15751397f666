use Rattle.std.proofs.Common.{◌≤◌, ◌+◌, ◌^◌, length}
use Rattle.box_program.specs.inner.BoxPrograms.{AreBoxColumns}
use Rattle.box_program.proofs.columns.columns_of.Given as goal

-- the columns of the greatest counts, and of the lines so far
abbrev pub invariant-loop-i : goal.invariant-loop-i
invariant-loop-i l = AreBoxColumns (length l.rows.bounds) l.columns × (length l.columns ≤ 2 ^ 20 + l.i)
