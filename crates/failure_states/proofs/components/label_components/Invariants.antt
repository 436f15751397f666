use Rattle.std.proofs.Common.{length}
use Rattle.plan_terms.specs.Terms.{Joins, graph_of}
use Rattle.failure_states.specs.inner.Components.{AreComponents}
use Rattle.failure_states.proofs.components.label_components.Given as goal

-- the components by the links so far
abbrev pub invariant-loop-e : goal.invariant-loop-e
invariant-loop-e l = AreComponents (Joins (graph_of l.graph)) (length l.graph.net.now.nodes) l.e l.labels
