use Rattle.module_prices.proofs.UnitCosts.{IsCheapestSoFar}
use Rattle.module_prices.proofs.cheapest.cheapest.Given as goal

-- the cheapest so far
abbrev pub invariant-loop-m : goal.invariant-loop-m
invariant-loop-m l = IsCheapestSoFar l.modules l.m-index l.cheapest
