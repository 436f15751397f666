use Rattle.std.proofs.Common.{All, take}
use Rattle.plan_terms.specs.Terms.{HasShortLengths}
use Rattle.planner.proofs.ranges.are_short_cuts.Given as goal

-- the cuts so far
abbrev pub invariant-loop-cut : goal.invariant-loop-cut
invariant-loop-cut l = All HasShortLengths (take l.cut-index l.cuts)
