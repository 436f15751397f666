use Rattle.row_cuts.specs.inner.Tests.{IsInverseTo}
use Rattle.row_cuts.proofs.inverse.is_inverse_row.Given as goal

-- the products so far are those of the inverse
abbrev pub invariant-loop-j : goal.invariant-loop-j
invariant-loop-j l = IsInverseTo l.keys l.rows l.row l.i l.j
