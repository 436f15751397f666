use Rattle.plan_terms.specs.Terms.{Joins, graph_of}
use Rattle.short_paths.proofs.ForwardStars.{ArcsBelow}
use Rattle.short_paths.proofs.forward_star.surviving_arcs.Given as goal

-- the arcs of the links so far
abbrev pub invariant-loop-e : goal.invariant-loop-e
invariant-loop-e l = ArcsBelow (Joins (graph_of l.graph)) l.e l.arcs.items
