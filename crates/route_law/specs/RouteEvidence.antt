-- evidence that a number of a routing program is too wide
use Rattle.std.specs.Prelude.{ℕ, ℤ, ◌^◌, ◌≤◌, ◌*ℤ◌, ◌<ℤ◌, List, pos, length, slice_index}
use Rattle.plan_terms.specs.Terms.{RouteColumn, WideKind, Length, Demand, Caps, Graph}
use Rattle.simplex_law.specs.Terms.{dot, ColumnOf, IsBest, HoldsKind, IsReachedEvidence}
use Rattle.route_law.{specs.PricedLengths.AreLinkPrices, specs.RoutingPrograms.{total_scaled_need, route_rows, route_bound, route_slack, IsRouteColumn}}

module _ (g : Graph) (demands : List Demand) (caps : Caps) where
  -- no column gains, the value is below what the demands need, and the price of link e is 2^32 or more as a whole number
  pub record HasWideLength (basis : ℕ → ColumnOf RouteColumn) (e : ℕ) : Type 0 where
    pub duals : ℕ → ℤ
    pub den : ℤ
    pub best : IsBest (route_rows g demands) (route_bound g demands caps) (IsRouteColumn g demands) basis duals den
    pub below : dot (route_rows g demands) duals (route_bound g demands caps) <ℤ (den *ℤ pos (total_scaled_need demands caps))
    pub lengths : List ℕ
    pub prices : AreLinkPrices (length g.links) duals lengths
    pub wide : 2 ^ 32 ≤ slice_index lengths e

  -- a kind holds of a basis that routes: as of each packing program, and Length where a link price is too wide
  abbrev pub HoldsOfRoute : (ℕ → ColumnOf RouteColumn) → WideKind RouteColumn → Type 0
  HoldsOfRoute basis (Length link) = HasWideLength basis link.0
  HoldsOfRoute basis kind = HoldsKind (route_rows g demands) (route_bound g demands caps) (route_slack g) (IsRouteColumn g demands) basis kind

  -- evidence of the routing program that holds, of a basis that gaining steps reach
  abbrev pub IsRouteEvidence : List RouteColumn → WideKind RouteColumn → Type 0
  IsRouteEvidence = IsReachedEvidence (route_rows g demands) (route_bound g demands caps) (route_slack g) (IsRouteColumn g demands) HoldsOfRoute
