use Rattle.std.proofs.Common.{take}
use Rattle.row_cuts.specs.inner.Tests.{AreNumbers}
use Rattle.row_cuts.proofs.lengths.lengths_of.Given as goal

-- the lengths so far
abbrev pub invariant-loop-e : goal.invariant-loop-e
invariant-loop-e l = AreNumbers (take l.e l.nums) l.lengths
