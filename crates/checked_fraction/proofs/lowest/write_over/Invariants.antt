use Rattle.checked_fraction.{specs.Rows.num, specs.inner.Passes.over, proofs.Writing.IsWritten}
use Rattle.checked_fraction.proofs.lowest.write_over.Given as goal

-- the numbers so far are written
abbrev pub invariant-loop-k : goal.invariant-loop-k
invariant-loop-k l = IsWritten l.nums l.initial.nums (over (num l.raw) l.divisor.value) l.k
