use Rattle.plan_terms.specs.Terms.{case_of}
use Rattle.able_counts.specs.AbleTests.{AreRoutedCounts}
use Rattle.trim_plan.{specs.Trimmed.AreAtMost, specs.inner.Sparing.all_modules}
use Rattle.trim_plan.proofs.blocks.settled_blocks.Given as goal

-- the test's routings are within the counts, of which none is greater
abbrev pub invariant-settle : goal.invariant-settle
invariant-settle l = record {
  routed : AreRoutedCounts (case_of l.instance) l.counts l.test;
  fewer : AreAtMost l.counts l.fn.counts;
}

-- each turn takes a module off
abbrev pub decreases-settle : goal.decreases-settle
decreases-settle l = all_modules l.counts
