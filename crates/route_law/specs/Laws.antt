-- what routing in a state rests on
use Rattle.std.specs.Prelude.{◌≡◌, ℕ, ℤ, ◌*◌, ◌*ℤ◌, ◌≤ℤ◌, ◌<ℤ◌, ◌≤◌, List, All, pos, length, slice_index}
use Rattle.plan_terms.specs.Terms.{RouteColumn, Demand, Caps, CutLine, Routing, Graph, Joins, AreKept, IsRight, IsFlow, Carries, Keeps, Violates}
use Rattle.simplex_law.specs.Terms.{int_sum, dot, ColumnOf, IsOptimum}
use Rattle.route_law.{specs.BasisFlows.AreFlowsOf, specs.PricedLengths.{ArePricedLengths, ArePricedSomewhere}, specs.Routings.AreJoined, specs.RoutingPrograms.{total_scaled_need, route_rows, route_bound, IsRouteColumn}}

-- what the amounts of a basis gain
abbrev pub basis_gain : ℕ → (ℕ → ColumnOf RouteColumn) → (ℕ → ℕ) → ℤ
basis_gain rows basis amounts = int_sum rows (λ j. pos (amounts j) *ℤ (basis j).gain)

-- the flows of an optimum whose value isn't below what the demands need carry the demands
abbrev pub BasisFlowsCarry : Type 0
BasisFlowsCarry = (g : Graph) (demands : List Demand) (caps : Caps) (basis : ℕ → ColumnOf RouteColumn) (amounts : ℕ → ℕ) (den : ℕ) (duals : ℕ → ℤ)
    (duals_den : ℤ) (routing : Routing)
    → IsOptimum (route_rows g demands) (route_bound g demands caps) (IsRouteColumn g demands) basis (λ j. pos (amounts j)) (pos den) duals duals_den
    → routing.den ≡ den
    → AreFlowsOf (route_rows g demands) basis amounts routing.flows
    → All (IsFlow (Joins g) demands) routing.flows
    → pos (den * total_scaled_need demands caps) ≤ℤ basis_gain (route_rows g demands) basis amounts
    → Carries (Joins g) demands caps.scale caps.nums routing

-- where the value of a best basis is below what the demands need, the capacities violate the cut of what the state keeps of its link prices
abbrev pub LinkPricesAreViolated : Type 0
LinkPricesAreViolated = (g : Graph) (demands : List Demand) (caps : Caps) (lengths : List ℕ) (cut : CutLine)
    → AreJoined g demands
    → (p : ArePricedLengths g demands caps lengths)
    → dot (route_rows g demands) p.duals (route_bound g demands caps) <ℤ (p.den *ℤ pos (total_scaled_need demands caps))
    → Keeps g lengths cut.lengths
    → IsRight (Joins g) cut.lengths demands cut.right
    → Violates caps cut

-- capacities that violate a cut of the state carry the demands in no routing
abbrev pub ViolatedCarriesNothing : Type 0
ViolatedCarriesNothing = (g : Graph) (demands : List Demand) (caps : Caps) (routing : Routing) (cut : CutLine)
    → length caps.nums ≡ length g.links
    → AreKept g cut.lengths
    → IsRight (Joins g) cut.lengths demands cut.right
    → Carries (Joins g) demands caps.scale caps.nums routing
    → Violates caps cut
    → ⊥

-- every vector of at most 256 zeros and ones with a one is priced
abbrev pub ZerosAndOnesArePriced : Type 0
ZerosAndOnesArePriced = (lengths : List ℕ) (e : ℕ)
    → length lengths ≤ 256
    → ((k : ℕ) → slice_index lengths k ≤ 1)
    → slice_index lengths e ≡ 1
    → ArePricedSomewhere lengths
