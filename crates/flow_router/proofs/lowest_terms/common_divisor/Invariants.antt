use Rattle.std.proofs.Common.{take}
use Rattle.flow_router.specs.Lowest.{IsCommonDivisor}
use Rattle.flow_router.proofs.lowest_terms.common_divisor.Given as goal

-- the divisor of the flows so far
abbrev pub invariant-loop-f : goal.invariant-loop-f
invariant-loop-f l = IsCommonDivisor l.den (take l.f-index l.flows) l.common
