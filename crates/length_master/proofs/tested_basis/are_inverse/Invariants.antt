use Rattle.length_master.specs.inner.Tests.{AreInverse}
use Rattle.length_master.proofs.tested_basis.are_inverse.Given as goal

-- the rows so far are those of the inverse
abbrev pub invariant-loop-i : goal.invariant-loop-i
invariant-loop-i l = AreInverse l.cuts l.rows l.i
