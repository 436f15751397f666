use Rattle.std.proofs.Common.{length, subst}
use Rattle.plan_terms.specs.Terms.{graph_of}
use Rattle.flow_router.{specs.inner.Flowing.AreBasisFlows, proofs.Answering.optimum_routed}
use Rattle.flow_router.proofs.route.routed.Goals as goal

pub returns : goal.returns
returns c =
    let task = c.args.task.now in
    let best = c.args.best.now in
    let flows = c.in_ok-flows.flows in
    optimum_routed (graph_of task.graph) task.demands.now task.caps.now best c.requires.solution flows c.lowest.result
    (subst (λ names. AreBasisFlows names best.values (length names) flows) c.items.ensures (subst (λ values. AreBasisFlows c.items.result.now values (length c.items.result.now) flows) c.items-2.ensures c.in_ok-flows.ensures))
    c.requires.met c.lowest.ensures
