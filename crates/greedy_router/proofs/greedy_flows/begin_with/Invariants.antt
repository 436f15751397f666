use Rattle.plan_terms.specs.Terms.{Joins, graph_of}
use Rattle.greedy_router.specs.inner.Drafts.{IsDraft}
use Rattle.greedy_router.proofs.greedy_flows.begin_with.Given as goal

-- the flows so far are part of a routing
abbrev pub invariant-loop-flow : goal.invariant-loop-flow
invariant-loop-flow l = IsDraft (Joins (graph_of l.task.graph)) l.task.demands.now l.task.caps.now.scale l.task.caps.now.nums l.draft
