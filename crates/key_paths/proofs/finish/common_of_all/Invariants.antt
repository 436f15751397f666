use Rattle.simplex_core.specs.Terms.{IsDenominator}
use Rattle.key_paths.specs.inner.Ends.{row_den}
use Rattle.key_paths.proofs.finish.common_of_all.Given as goal

-- the denominator of the rows so far
abbrev pub invariant-loop-i : goal.invariant-loop-i
invariant-loop-i l = IsDenominator (row_den l.rows) l.i l.all
