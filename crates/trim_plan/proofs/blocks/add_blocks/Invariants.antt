use Rattle.std.proofs.Common.{◌≡◌, ◌++◌, [], All, get_or, take}
use Rattle.plan_terms.specs.Terms.{case_of}
use Rattle.able_counts.specs.AbleTests.{AreRoutedCounts}
use Rattle.trim_plan.{specs.Trimmed.{IsBlockAt, modules_in_use}, specs.inner.Sparing.block_places}
use Rattle.trim_plan.proofs.blocks.add_blocks.Given as goal

-- the modules so far have their blocks
abbrev pub invariant-loop-m : goal.invariant-loop-m
invariant-loop-m l = record {
  same : l.counts ≡ l.fn.counts;
  routed : AreRoutedCounts (case_of l.instance) l.fn.counts l.test;
  blocked : All (IsBlockAt (case_of l.instance) l.fn.counts) l.blocks;
  places : block_places l.blocks ≡ block_places l.fn.blocks ++ modules_in_use l.link 0 (take l.m (get_or l.fn.counts l.link []));
}
