use Rattle.std.proofs.Common.{take}
use Rattle.plan_terms.specs.Terms.{IsGreatestDivisor, charges}
use Rattle.module_prices.proofs.rounding.cost_divisor.Given as goal

-- the divisor of what the links so far charge
abbrev pub invariant-loop-l : goal.invariant-loop-l
invariant-loop-l l = IsGreatestDivisor (charges (take l.l-index l.links)) l.common
