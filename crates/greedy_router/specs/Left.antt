-- a routing that is blocked, with what it leaves of the demands (a blocking flow of several commodities)
use Rattle.std.specs.Prelude.{◌≡◌, ℕ, ◌+◌, ◌*◌, ◌<◌, ◌≤◌, List, All, Some, length, slice_get, slice_index}
use Rattle.plan_terms.specs.Terms.{Demand, IsFlow, load, sent}
use Rattle.greedy_router.{specs.Blocked.{HasSpare, IsBlocked}, specs.declared.greedy_flows.Left.Left}

-- The flows are whole numbers, follow paths of their demands and stay within nums over scale. With its rest each demand has
-- its need, and one that has a rest has no path of links with spare capacity. There are at most as many flows as links and
-- demands together.
pub record IsLeft (joins : ℕ → ℕ → ℕ → Type 0) (demands : List Demand) (scale : ℕ) (nums : List ℕ) (left : Left) : Type 0 where
  pub whole : left.routing.den ≡ 1
  pub flows : All (IsFlow joins demands) left.routing.flows
  pub count : length left.rest ≡ length demands
  pub met : (k : ℕ) (d : Demand) → slice_get demands k ≡ Some d → sent left.routing.flows k + slice_index left.rest k ≡ d.need * scale
  pub within : (e : ℕ) → load left.routing.flows e ≤ slice_index nums e
  pub blocked : (k : ℕ) (d : Demand) → slice_get demands k ≡ Some d → 0 < slice_index left.rest k
      → IsBlocked joins (HasSpare nums left.routing.flows) d.from.0 d.to.0
  pub few : length left.routing.flows ≤ length nums + length demands
