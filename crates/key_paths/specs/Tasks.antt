-- the program that routes demands within capacities, and what is found of it
use Rattle.std.specs.Prelude.{ℕ, ◌<◌, List, Result}
use Rattle.checked_fraction.specs.Terms.{IsNarrow}
use Rattle.plan_terms.specs.Terms.{Caps, Demand, Graph, RouteColumn}
use Rattle.simplex_core.{specs.Terms.IsSimplexAnswer, specs.declared.optimum.Optimum.Optimum, specs.declared.solver.SimplexFault.SimplexFault}
use Rattle.route_law.specs.Terms.{IsCarrying, route_bound, route_rows, route_slack}

-- the bound of each row is narrow
abbrev pub HasNarrowBounds : Graph → List Demand → Caps → Type 0
HasNarrowBounds g demands caps = (k : ℕ) → k < route_rows g demands → IsNarrow (route_bound g demands caps k)

-- an optimum of the program, or a basis of it, reached by gaining steps, on which a number is too wide
abbrev pub IsTaskAnswer : Graph → List Demand → Caps → Result (Optimum RouteColumn) (SimplexFault RouteColumn) → Type 0
IsTaskAnswer g demands caps result = IsSimplexAnswer (route_rows g demands) (route_bound g demands caps) (route_slack g) (IsCarrying g demands) result
