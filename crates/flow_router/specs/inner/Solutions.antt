-- optima of the routing program of a task
use Rattle.std.specs.Prelude.{ℕ, ◌*ℤ◌, ◌<ℤ◌, List, pos}
use Rattle.plan_terms.specs.Terms.{RouteColumn, RouteTask, graph_of}
use Rattle.simplex_law.specs.Terms.{dot}
use Rattle.simplex_core.{specs.Terms.Solves, specs.declared.optimum.Optimum.Optimum}
use Rattle.route_law.specs.Terms.{ArePricedLengths, AreJoined, route_rows, route_bound, route_slack, total_scaled_need, IsCarrying}

-- an optimum of the task's routing program
abbrev pub IsSolution : RouteTask → Optimum RouteColumn → Type 0
IsSolution t = Solves (route_rows (graph_of t.graph) t.demands.now) (route_bound (graph_of t.graph) t.demands.now t.caps.now) (route_slack (graph_of t.graph))
    (IsCarrying (graph_of t.graph) t.demands.now)

-- the lengths are link prices at a best basis whose value is below what the demands need, all of which some path carries
pub record ArePricesBelow (t : RouteTask) (lengths : List ℕ) : Type 0 where
  pub joined : AreJoined (graph_of t.graph) t.demands.now
  pub priced : ArePricedLengths (graph_of t.graph) t.demands.now t.caps.now lengths
  pub below : dot (route_rows (graph_of t.graph) t.demands.now) priced.duals
      (route_bound (graph_of t.graph) t.demands.now t.caps.now) <ℤ (priced.den *ℤ pos (total_scaled_need t.demands.now t.caps.now))
