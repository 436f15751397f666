use Rattle.std.proofs.Common.{take}
use Rattle.plan_terms.specs.Terms.{IsGreatestDivisor}
use Rattle.flow_router.proofs.link_lengths.common_price.Given as goal

-- the divisor of the prices so far
abbrev pub invariant-loop-price : goal.invariant-loop-price
invariant-loop-price l = IsGreatestDivisor (take l.price-index l.prices) l.common
