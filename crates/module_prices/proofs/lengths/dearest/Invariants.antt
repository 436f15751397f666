use Rattle.module_prices.specs.inner.Dearest.{IsDearestSoFar}
use Rattle.module_prices.proofs.lengths.dearest.Given as goal

-- the most expensive so far
abbrev pub invariant-loop-e : goal.invariant-loop-e
invariant-loop-e l = IsDearestSoFar l.links l.e l.dearest
