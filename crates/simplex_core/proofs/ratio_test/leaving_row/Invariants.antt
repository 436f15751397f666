use Rattle.std.proofs.Common.{length}
use Rattle.simplex_core.specs.inner.Ratios.{IsBestBefore}
use Rattle.simplex_core.proofs.ratio_test.leaving_row.Given as goal

-- the best of the rows so far
abbrev pub invariant-loop-i : goal.invariant-loop-i
invariant-loop-i l = IsBestBefore (length l.rows) l.rows l.bounds l.products l.i l.best
