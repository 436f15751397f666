use Rattle.std.proofs.Common.{map, take}
use Rattle.plan_terms.specs.Terms.{IsGreatestDivisor}
use Rattle.module_prices.proofs.rounding.modules_divisor.Given as goal

-- the divisor of the costs so far
abbrev pub invariant-loop-m : goal.invariant-loop-m
invariant-loop-m l = IsGreatestDivisor (map (λ m. m.cost) (take l.m-index l.modules)) l.common
