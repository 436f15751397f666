use Rattle.checked_fraction.{specs.inner.Passes.{raw, over}, proofs.Writing.IsWritten}
use Rattle.checked_fraction.proofs.pivot.write.Given as goal

-- the numbers so far are written
abbrev pub invariant-loop-k : goal.invariant-loop-k
invariant-loop-k l = IsWritten l.nums l.initial.nums (over (raw l.initial.nums l.pivot l.mix) l.divisor.value) l.k
