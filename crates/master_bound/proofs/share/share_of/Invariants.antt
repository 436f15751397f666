use Rattle.checked_fraction.specs.Terms.{num}
use Rattle.master_bound.specs.inner.Shares.{AreUnitsOf}
use Rattle.master_bound.proofs.share.share_of.Given as goal

-- the units so far
abbrev pub invariant-loop-e : goal.invariant-loop-e
invariant-loop-e l = AreUnitsOf l.e (num l.nums) l.units
