use Rattle.row_cuts.specs.inner.Tests.{AreFarBelow}
use Rattle.row_cuts.proofs.nearness.are_far.Given as goal

-- the ends of the demands so far are as far apart as their keys are long
abbrev pub invariant-loop-k : goal.invariant-loop-k
invariant-loop-k l = AreFarBelow l.table l.demands l.keys l.nums l.k
