-- what each link needs in a share, and counts of modules that cover it
use Rattle.std.specs.Prelude.{◌≡◌, ℕ, ◌^◌, ◌<◌, List, Some, length, slice_get, slice_index}
use Rattle.module_prices.specs.declared.cheapest.UnitPair.{UnitPair}
use Rattle.plan_terms.specs.Terms.{Link, Module, AreCounts, AreWithinLimits, modules_capacity, total_cost}
use Rattle.plan_types.specs.declared.quality.Share.{Share}
use Rattle.master_law.specs.Terms.{AreUnitPairs, IsPairOfLink, IsShareNeed}
use Rattle.plan_law.specs.TightPlans.{CoversShare}
use Rattle.share_covers.specs.declared.covers.Installed.{Installed}

-- what a link with these modules needs for a number of units of its unit pair, over the scale
pub record IsNeedOfLink (modules : List Module) (scale units need : ℕ) : Type 0 where
  pub pair : UnitPair
  pub is_pair : IsPairOfLink modules pair
  pub is_need : IsShareNeed scale pair.capacity units need

-- what each link needs in a share
pub record AreShareNeeds (links : List Link) (share : Share) (needs : List ℕ) : Type 0 where
  pub count : length needs ≡ length links
  pub each : (e : ℕ) (l : Link) → slice_get links e ≡ Some l → IsNeedOfLink l.modules share.scale (slice_index share.units e) (slice_index needs e)

-- Counts that cover each link's need in a share, with their cost. They are within the limits, and no link's modules give 2^45 units or more.
pub record AreShareCovers (links : List Link) (share : Share) (installed : Installed) : Type 0 where
  pub covers : (pairs : List UnitPair) → AreUnitPairs links pairs → CoversShare links pairs share installed.counts
  pub shape : AreCounts links installed.counts
  pub limits : AreWithinLimits links installed.counts
  pub small : (e : ℕ) (l : Link) (c : List ℕ) → slice_get links e ≡ Some l → slice_get installed.counts e ≡ Some c → modules_capacity l.modules c < 2 ^ 45
  pub paid : installed.cost ≡ total_cost links installed.counts
