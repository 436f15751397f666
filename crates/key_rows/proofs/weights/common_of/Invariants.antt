use Rattle.simplex_core.specs.Terms.{IsDenominator}
use Rattle.key_rows.specs.KeyRows.{own_den}
use Rattle.key_rows.proofs.weights.common_of.Given as goal

-- the denominator of the rows so far
abbrev pub invariant-loop-i : goal.invariant-loop-i
invariant-loop-i l = IsDenominator (own_den l.rows l.owners l.demand) l.i l.all
