use Rattle.std.proofs.Common.{◌≤◌}
use Rattle.plan_terms.specs.Terms.{case_of}
use Rattle.trim_plan.specs.Terms.{IsTestOf}
use Rattle.plan_swaps.specs.inner.Searching.{AreCarryingCounts}
use Rattle.plan_swaps.proofs.swaps.try_moves.Given as goal

-- the counts that are kept carry the demands, and cost no more
abbrev pub invariant-loop : goal.invariant-loop
invariant-loop l = record {
  sound : IsTestOf (case_of l.instance) l.search.test;
  kept : AreCarryingCounts (case_of l.instance) l.kept;
  cheaper : l.kept.cost ≤ l.fn.kept.cost;
}
