use Rattle.std.proofs.Common.{◌≡◌, All, take}
use Rattle.plan_terms.specs.Terms.{case_of}
use Rattle.able_counts.specs.AbleTests.{AreRoutedCounts}
use Rattle.trim_plan.{specs.Trimmed.{IsBlockAt, links_in_use}, specs.inner.Sparing.block_places}
use Rattle.trim_plan.proofs.blocks.add_all_blocks.Given as goal

-- the links so far have their blocks
abbrev pub invariant-loop-e : goal.invariant-loop-e
invariant-loop-e l = record {
  same : l.counts ≡ l.fn.counts;
  routed : AreRoutedCounts (case_of l.instance) l.fn.counts l.test;
  blocked : All (IsBlockAt (case_of l.instance) l.fn.counts) l.blocks;
  places : block_places l.blocks ≡ links_in_use 0 (take l.e l.fn.counts);
}
