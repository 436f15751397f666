use Rattle.length_master.specs.inner.Tests.{IsInverseAt}
use Rattle.length_master.proofs.tested_basis.is_inverse_row.Given as goal

-- the products so far are those of the inverse
abbrev pub invariant-loop-j : goal.invariant-loop-j
invariant-loop-j l = IsInverseAt l.cuts l.rows l.row l.i l.j
