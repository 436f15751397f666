use Rattle.plan_terms.specs.Terms.{case_of}
use Rattle.able_counts.specs.AbleTests.{AreRoutedCounts}
use Rattle.trim_plan.specs.Trimmed.{AreAtMost}
use Rattle.trim_plan.proofs.spared_modules.take_all_off.Given as goal

-- the test's routings are within the counts, of which none is greater
abbrev pub invariant-loop : goal.invariant-loop
invariant-loop l = record {
  routed : AreRoutedCounts (case_of l.instance) l.counts l.test;
  fewer : AreAtMost l.counts l.fn.counts;
}
