-- plans whose bound no cuts can raise: a share that costs the raw value, and that carries the demands in each state
use Rattle.std.{specs.Prelude.{◌≡◌, ℕ, ◌+◌, ◌*◌, ◌<◌, ◌≤◌, List, All, Some, length, slice_get, slice_index}, specs.Int.◌∣◌}
use Rattle.plan_terms.specs.Terms.{Link, Routing, Case, graph_in, Joins, total_cost, Covers, Carries}
use Rattle.module_prices.specs.declared.cheapest.UnitPair.{UnitPair}
use Rattle.plan_types.{specs.declared.plan.Plan.Plan, specs.declared.quality.Fractional.Fractional, specs.declared.quality.Share.Share}
use Rattle.route_law.specs.Terms.{IsLowestRouting}
use Rattle.master_law.specs.Terms.{AreUnitPairs, IsShareNeed, share_caps, share_cost}

-- the counts of each link cover its need in the share
pub record CoversShare (links : List Link) (pairs : List UnitPair) (share : Share) (counts : List (List ℕ)) : Type 0 where
  pub long : length counts ≡ length links
  pub each : (e : ℕ) (l : Link) (pair : UnitPair) (c : List ℕ) → slice_get links e ≡ Some l → slice_get pairs e ≡ Some pair → slice_get counts e ≡ Some c
      → (need : ℕ) × IsShareNeed share.scale pair.capacity (slice_index share.units e) need × Covers l need c

-- the share costs the raw value of the plan
abbrev pub CostsRawValue : List UnitPair → Share → Plan → Type 0
CostsRawValue pairs share plan = share_cost pairs share * plan.raw_den ≡ plan.raw_num * share.scale

-- one number of units for each link over a positive scale, in lowest terms
pub record IsProperShare (links : List Link) (share : Share) : Type 0 where
  pub positive : 0 < share.scale
  pub long : length share.units ≡ length links
  pub lowest : (d : ℕ) → d ∣ share.scale → All (λ u. d ∣ u) share.units → d ≡ 1

-- in each state a routing in lowest terms carries the demands within the share's capacities
pub record AreCarriedByShare (p : Case) (pairs : List UnitPair) (fractional : Fractional) : Type 0 where
  pub states : length fractional.routings ≡ length p.listed + 1
  pub lowest : All IsLowestRouting fractional.routings
  pub each : (s : ℕ) (r : Routing) → slice_get fractional.routings s ≡ Some r
      → Carries (Joins (graph_in p s)) p.demands fractional.share.scale (share_caps p.links pairs fractional.share).nums r

-- the plan costs no more than counts that cover the share
pub record CostsAtMostCover (links : List Link) (pairs : List UnitPair) (share : Share) (cost : ℕ) : Type 0 where
  pub counts : List (List ℕ)
  pub covers : CoversShare links pairs share counts
  pub at_most : cost ≤ total_cost links counts

-- Tight: the share costs the raw value and carries the demands in each state, and the plan costs at most what covers the share.
pub record IsTightPlan (p : Case) (pairs : List UnitPair) (plan : Plan) (fractional : Fractional) : Type 0 where
  pub units : AreUnitPairs p.links pairs
  pub share : IsProperShare p.links fractional.share
  pub raw : CostsRawValue pairs fractional.share plan
  pub carried : AreCarriedByShare p pairs fractional
  pub cost : CostsAtMostCover p.links pairs fractional.share plan.cost
