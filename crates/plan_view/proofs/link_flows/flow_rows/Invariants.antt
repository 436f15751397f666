use Rattle.std.proofs.Common.{◌≡◌, map, take}
use Rattle.plan_view.specs.FlowRows.{flow_row}
use Rattle.plan_view.proofs.link_flows.flow_rows.Given as goal

-- the rows so far
abbrev pub invariant-loop-flow : goal.invariant-loop-flow
invariant-loop-flow l = l.rows ≡ map (flow_row l.links l.demands l.routing.den) (take l.flow-index l.routing.flows)
