use Rattle.checked_fraction.specs.Terms.{num}
use Rattle.flow_router.specs.inner.Lengths.{AreLinkCosts}
use Rattle.flow_router.proofs.prices.link_prices.Given as goal

-- the prices so far
abbrev pub invariant-loop-e : goal.invariant-loop-e
invariant-loop-e l = AreLinkCosts l.e (num l.duals) l.prices
