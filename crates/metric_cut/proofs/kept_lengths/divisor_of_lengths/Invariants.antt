use Rattle.std.proofs.Common.{take}
use Rattle.plan_terms.specs.Terms.{IsGreatestDivisor}
use Rattle.metric_cut.proofs.kept_lengths.divisor_of_lengths.Given as goal

-- the divisor of the lengths so far
abbrev pub invariant-loop-length : goal.invariant-loop-length
invariant-loop-length l = IsGreatestDivisor (take l.length-index l.lengths) l.common
