use Rattle.std.proofs.Common.{take}
use Rattle.plan_terms.specs.Terms.{AreCounts}
use Rattle.tree_boxes.proofs.whole.least_of_box.Given as goal

-- counts of the links so far
abbrev pub invariant-loop-e : goal.invariant-loop-e
invariant-loop-e l = AreCounts (take l.e l.links) l.counts
