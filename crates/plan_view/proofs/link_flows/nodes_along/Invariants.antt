use Rattle.std.proofs.Common.{◌≡◌, take}
use Rattle.plan_view.{specs.FlowRows.nodes_along, specs.inner.Ends.node_after}
use Rattle.plan_view.proofs.link_flows.nodes_along.Given as goal

-- the nodes so far, and the last of them
abbrev pub invariant-loop-e : goal.invariant-loop-e
invariant-loop-e l = (l.nodes ≡ nodes_along l.links l.fn.from (take l.e-index l.path)) × (l.here ≡ node_after l.links l.fn.from (take l.e-index l.path))
