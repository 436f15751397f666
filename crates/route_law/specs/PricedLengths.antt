-- lengths that are the link prices at an optimum of a routing program
use Rattle.std.{specs.Prelude.{◌≡◌, ℕ, ℤ, ◌*◌, ◌^◌, ◌<◌, ◌≤◌, List, All, pos, length, slice_index}, specs.Int.◌∣◌}
use Rattle.plan_terms.specs.Terms.{RouteColumn, Demand, Caps, AreDemands, Graph, IsNetwork, AreStates}
use Rattle.simplex_law.specs.Terms.{ColumnOf, IsBest}
use Rattle.route_law.specs.RoutingPrograms.{route_rows, route_bound, IsRouteColumn}

-- the prices of n links as whole numbers without a common divisor above 1, so that they aren't all 0
pub record AreLinkPrices (n : ℕ) (prices : ℕ → ℤ) (lengths : List ℕ) : Type 0 where
  pub count : length lengths ≡ n
  pub factor : ℕ
  pub positive : 0 < factor
  pub same : (e : ℕ) → e < n → prices e ≡ pos (factor * slice_index lengths e)
  pub lowest : (d : ℕ) → All (λ l. d ∣ l) lengths → d ≡ 1

-- the lengths are priced: they are the link prices at a best basis of the program that routes these demands within these capacities
pub record ArePricedLengths (g : Graph) (demands : List Demand) (caps : Caps) (lengths : List ℕ) : Type 0 where
  pub basis : ℕ → ColumnOf RouteColumn
  pub duals : ℕ → ℤ
  pub den : ℤ
  pub best : IsBest (route_rows g demands) (route_bound g demands caps) (IsRouteColumn g demands) basis duals den
  pub prices : AreLinkPrices (length g.links) duals lengths

-- The lengths are priced with nothing named: some network with as many links has a state, demands and capacities for which they are.
pub record ArePricedSomewhere (lengths : List ℕ) : Type 0 where
  pub g : Graph
  pub network : IsNetwork g.nodes g.links
  pub states : AreStates (length g.links) g.listed
  pub listed_state : g.state ≤ length g.listed
  pub demands : List Demand
  pub are_demands : AreDemands (length g.nodes) demands
  pub caps : Caps
  pub scale : (0 < caps.scale) × (caps.scale < 2 ^ 64)
  pub nums : (length caps.nums ≡ length g.links) × All (λ n. n < 2 ^ 128) caps.nums
  pub priced : ArePricedLengths g demands caps lengths
