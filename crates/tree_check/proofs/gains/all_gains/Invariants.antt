use Rattle.tree_check.specs.inner.Weighing.{AreGainsOf}
use Rattle.tree_check.proofs.gains.all_gains.Given as goal

-- the links so far
abbrev pub invariant-loop-e : goal.invariant-loop-e
invariant-loop-e l = AreGainsOf l.of l.e l.sums
