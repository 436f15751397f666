use Rattle.std.proofs.Common.{All, take}
use Rattle.plan_terms.specs.Terms.{graph_of}
use Rattle.flow_mending.specs.inner.Counting.{IsCountedFlow}
use Rattle.flow_mending.proofs.routing_form.are_flows.Given as goal

-- the flows so far are counted
abbrev pub invariant-loop-f : goal.invariant-loop-f
invariant-loop-f l = All (IsCountedFlow (graph_of l.task.graph) l.task.demands.now) (take l.f-index l.flows)
