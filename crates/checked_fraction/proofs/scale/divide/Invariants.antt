use Rattle.checked_fraction.{specs.Rows.num, specs.inner.Passes.over, proofs.Writing.IsWritten}
use Rattle.checked_fraction.proofs.scale.divide.Given as goal

-- the numbers so far are divided
abbrev pub invariant-loop-k : goal.invariant-loop-k
invariant-loop-k l = IsWritten l.nums l.initial.nums (over (num l.initial.nums) l.g) l.k
