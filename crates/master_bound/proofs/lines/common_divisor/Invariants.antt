use Rattle.std.proofs.Common.{◌∷◌, take}
use Rattle.plan_terms.specs.Terms.{IsGreatestDivisor}
use Rattle.master_bound.proofs.lines.common_divisor.Given as goal

-- the divisor of the number and the others so far
abbrev pub invariant-loop-other : goal.invariant-loop-other
invariant-loop-other l = IsGreatestDivisor (l.number ∷ take l.other-index l.others) l.common
