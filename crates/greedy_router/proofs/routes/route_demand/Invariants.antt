use Rattle.std.proofs.Common.{◌≡◌, ◌+◌}
use Rattle.plan_terms.specs.Terms.{Joins, graph_of}
use Rattle.greedy_router.{specs.inner.Drafts.Adds, specs.inner.FullLinks.positives}
use Rattle.greedy_router.proofs.routes.route_demand.Given as goal

-- paths are searched for in the graph of the beginning, and flows of the demand have been added
abbrev pub invariant-loop-alloc : goal.invariant-loop-alloc
invariant-loop-alloc l = (l.finder.graph ≡ l.initial.finder.graph) × Adds (Joins (graph_of l.initial.finder.graph)) l.k l.d l.initial.draft l.draft

-- links that aren't full, and rests
abbrev pub decreases-loop-alloc : goal.decreases-loop-alloc
decreases-loop-alloc l = positives l.draft.spares + positives l.draft.rest
