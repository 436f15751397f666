use Rattle.std.proofs.Common.{IfSome, inr, subst}
use Rattle.net_core.proofs.Networks.{few_links}
use Rattle.plan_terms.specs.Terms.{graph_of}
use Rattle.separator.specs.Terms.{IsRouted}
use Rattle.able_counts.{specs.inner.Tasks.task_case, proofs.Testing.routed_within}
use Rattle.able_counts.proofs.quick.quick_stop.Goals as goal

pub returns-in-Some-clause-kept : goal.returns-in-Some-clause-kept
returns-in-Some-clause-kept c =
    let task = c.args.task.now in
    let p = task_case task in
    inr (routed_within p task.graph.state.0 task.caps.now c.requires.scale task.belong (few_links p.nodes p.links task.graph.net.now.checked) c.in-Some.found
    (subst (λ o. IfSome o (IsRouted (graph_of task.graph) p.demands task.caps.now)) c.in-Some.is c.in_ok-found.ensures))
