use Rattle.row_cuts.specs.inner.Tests.{AreInverseBelow}
use Rattle.row_cuts.proofs.inverse.are_inverse.Given as goal

-- the rows so far are those of the inverse
abbrev pub invariant-loop-i : goal.invariant-loop-i
invariant-loop-i l = AreInverseBelow l.keys l.rows l.i
