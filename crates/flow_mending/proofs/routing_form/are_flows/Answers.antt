use Rattle.std.proofs.Common.{arith}
use Rattle.plan_terms.specs.Terms.{graph_of}
use Rattle.flow_mending.{specs.inner.Counting.IsCountedFlow, proofs.Counted.{all_next, all_taken}}
use Rattle.flow_mending.proofs.routing_form.are_flows.Goals as goal

pub loop-f-preserved : goal.loop-f-preserved
loop-f-preserved c =
    all_next (IsCountedFlow (graph_of c.args.task.now.graph) c.args.task.now.demands.now) c.args.flows.now c.loop-f.f-index c.f-item.result c.loop-f-test.true c.f-item.is
    c.loop-f.invariant (c.is_flow.ensures c.if-not-is_flow.false)

pub returns : goal.returns
returns c _ =
    all_taken (IsCountedFlow (graph_of c.args.task.now.graph) c.args.task.now.demands.now) c.args.flows.now c.loop-f.f-index (omega (arith, c.loop-f-test.false)) c.loop-f.invariant
