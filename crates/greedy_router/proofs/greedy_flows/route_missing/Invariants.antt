use Rattle.std.proofs.Common.{◌≡◌, take}
use Rattle.plan_terms.specs.Terms.{Joins, graph_of}
use Rattle.greedy_router.specs.inner.Drafts.{AreRouted}
use Rattle.greedy_router.proofs.greedy_flows.route_missing.Given as goal

-- paths are searched for in the task's graph, and the demands so far have been routed
abbrev pub invariant-loop-k : goal.invariant-loop-k
invariant-loop-k l = (l.finder.graph ≡ l.task.graph) × AreRouted (Joins (graph_of l.task.graph)) l.task.demands.now l.task.caps.now.scale l.task.caps.now.nums (take l.k-index l.k-items) l.draft
