use Rattle.plan_terms.specs.Terms.{AreCounts}
use Rattle.tree_boxes.specs.Searches.{aimed}
use Rattle.tree_boxes.proofs.whole.whole_counts.Given as goal

-- there is a count for each module
abbrev pub invariant-loop-a : goal.invariant-loop-a
invariant-loop-a l = AreCounts (aimed l.fn.aim).links l.counts
