use Rattle.std.proofs.Common.{length}
use Rattle.checked_fraction.specs.Terms.{num}
use Rattle.simplex_core.specs.inner.Pivots.{AreCombined}
use Rattle.simplex_core.proofs.pivot.combine_rows.Given as goal

-- the rows so far are combined
abbrev pub invariant-loop-i : goal.invariant-loop-i
invariant-loop-i l = AreCombined (length l.pivot.nums) l.initial.rows l.rows l.products (num l.pivot.nums) (num l.products l.r) l.r l.i
