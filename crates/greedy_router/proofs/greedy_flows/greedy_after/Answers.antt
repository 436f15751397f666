use Rattle.plan_terms.specs.Terms.{Joins, graph_of}
use Rattle.greedy_router.proofs.Adding.{left_of}
use Rattle.greedy_router.proofs.greedy_flows.greedy_after.Goals as goal

pub returns : goal.returns
returns c =
    let task = c.args.task.now in
    let caps = task.caps.now in
    left_of (Joins (graph_of task.graph)) task.demands.now caps.scale caps.nums c.in_ok-draft.draft c.in_ok-draft.ensures
