-- The words of this crate, passed on from one place to other crates. Declares nothing.
pub use Rattle.route_law.specs.BasisFlows.{AreFlowsOf, is_of_demand, runs_over}
pub use Rattle.route_law.specs.Divisions.{caps_times, flows_times}
pub use Rattle.route_law.specs.Laws.{ZerosAndOnesArePriced}
pub use Rattle.route_law.specs.PricedLengths.{AreLinkPrices, ArePricedLengths, ArePricedSomewhere}
pub use Rattle.route_law.specs.RouteEvidence.{HasWideLength, HoldsOfRoute, IsRouteEvidence}
pub use Rattle.route_law.specs.RoutingPrograms.{IsCarrying, IsRouteColumn, beside, path_entry, route_bound, route_rows, route_slack, scaled_need, total_scaled_need}
pub use Rattle.route_law.specs.Routings.{AreJoined, IsLowestRouting, flow_times, over_times}
