use Rattle.checked_fraction.specs.inner.Passes.{raw, over, IsWithin}
use Rattle.checked_fraction.proofs.wide.first_wide.Given as goal

-- the numbers so far are narrow
abbrev pub invariant-loop-k : goal.invariant-loop-k
invariant-loop-k l = IsWithin (over (raw l.nums l.pivot l.mix) l.divisor.value) l.k
