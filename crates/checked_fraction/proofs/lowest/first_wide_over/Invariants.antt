use Rattle.checked_fraction.{specs.Rows.num, specs.inner.Passes.{over, IsWithin}}
use Rattle.checked_fraction.proofs.lowest.first_wide_over.Given as goal

-- the numbers so far are narrow
abbrev pub invariant-loop-k : goal.invariant-loop-k
invariant-loop-k l = IsWithin (over (num l.raw) l.divisor.value) l.k
