use Rattle.std.proofs.Common.{◌≡◌, map, take}
use Rattle.route_law.specs.Terms.{flow_times}
use Rattle.share_covers.proofs.shared_routes.flows_over.Given as goal

-- the flows so far
abbrev pub invariant-loop-flow : goal.invariant-loop-flow
invariant-loop-flow l = map (flow_times l.divisor) l.over ≡ take l.flow-index l.flows
