use Rattle.plan_terms.specs.Terms.{case_of}
use Rattle.able_counts.specs.AbleTests.{AreRoutedCounts}
use Rattle.trim_plan.specs.Trimmed.{AreAtMost}
use Rattle.trim_plan.proofs.spared_modules.spare_in_order.Given as goal

-- the test's routings are within the counts, of which none is greater
abbrev pub invariant-loop-priced : goal.invariant-loop-priced
invariant-loop-priced l = record {
  routed : AreRoutedCounts (case_of l.instance) l.counts l.test;
  fewer : AreAtMost l.counts l.fn.counts;
}
