use Rattle.metric_cut.proofs.Leasts.{IsLeastSoFar}
use Rattle.metric_cut.proofs.ratio.least_ratio.Given as goal

-- the least so far
abbrev pub invariant-loop-e : goal.invariant-loop-e
invariant-loop-e l = IsLeastSoFar l.links l.lengths l.e l.least
