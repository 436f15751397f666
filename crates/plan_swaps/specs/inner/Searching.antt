-- counts on the way to cheaper ones
use Rattle.std.specs.Prelude.{◌≡◌, ℕ, List}
use Rattle.plan_terms.specs.Terms.{Case, AreCounts, AreWithinLimits, capacities, total_cost}
use Rattle.trim_plan.specs.Terms.{AreRoutingsWithin, IsTestOf}
use Rattle.plan_swaps.{specs.declared.kept.Kept.Kept, specs.declared.search.Search.Search}

-- counts within their limits that may be asked about
pub record AreAskedCounts (p : Case) (s : Search) (counts : List (List ℕ)) : Type 0 where
  pub test : IsTestOf p s.test
  pub shape : AreCounts p.links counts
  pub limits : AreWithinLimits p.links counts

-- counts with their cost, and for each state a routing within them
pub record AreCarryingCounts (p : Case) (k : Kept) : Type 0 where
  pub shape : AreCounts p.links k.counts
  pub limits : AreWithinLimits p.links k.counts
  pub routings : AreRoutingsWithin p (capacities p.links k.counts) k.routings
  pub paid : k.cost ≡ total_cost p.links k.counts
