use Rattle.std.proofs.Common.{All, take}
use Rattle.master_bound.specs.Narrow.{IsNarrowCut}
use Rattle.master_bound.proofs.numbers.wide_cut.Given as goal

-- the cuts so far are narrow
abbrev pub invariant-loop-k : goal.invariant-loop-k
invariant-loop-k l = All (IsNarrowCut l.links l.pairs) (take l.k l.cuts)
