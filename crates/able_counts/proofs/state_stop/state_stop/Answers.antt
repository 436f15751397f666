use Rattle.std.proofs.Common.{inr, subst, arith}
use Rattle.plan_terms.specs.Terms.{graph_of}
use Rattle.net_core.proofs.Networks.{few_links}
use Rattle.separator.specs.Findings.{IsFinding}
use Rattle.able_counts.{specs.inner.Tasks.task_case, proofs.Testing.{routed_within, survivable_joins}}
use Rattle.able_counts.proofs.state_stop.state_stop.Goals as goal

pub route_anew-requires-clause-joined : goal.route_anew-requires-clause-joined
route_anew-requires-clause-joined c =
    let task = c.args.task.now in
    survivable_joins (task_case task) task.graph.state.0 c.requires.survivable task.graph.in_range

pub returns-in-Routed-clause-kept : goal.returns-in-Routed-clause-kept
returns-in-Routed-clause-kept c =
    let task = c.args.task.now in
    let p = task_case task in
    inr (routed_within p task.graph.state.0 task.caps.now c.requires.scale task.belong (few_links p.nodes p.links task.graph.net.now.checked) c.in-Routed.found
    (subst (IsFinding (graph_of task.graph) p.demands task.caps.now) c.in-Routed.is c.in_ok-found.ensures))

pub returns-in-Routed-clause-carried : goal.returns-in-Routed-clause-carried
returns-in-Routed-clause-carried c _ =
    let task = c.args.task.now in
    let p = task_case task in
    routed_within p task.graph.state.0 task.caps.now c.requires.scale task.belong (few_links p.nodes p.links task.graph.net.now.checked) c.in-Routed.found
    (subst (IsFinding (graph_of task.graph) p.demands task.caps.now) c.in-Routed.is c.in_ok-found.ensures)

pub returns-in-Wide-clause-stop : goal.returns-in-Wide-clause-stop
returns-in-Wide-clause-stop c =
    let task = c.args.task.now in
    record {
      state = task.graph.state.0;
      listed_state = omega (arith, task.graph.in_range);
      here = subst (IsFinding (graph_of task.graph) task.demands.now task.caps.now) c.in-Wide.is c.in_ok-found.ensures;
    }
