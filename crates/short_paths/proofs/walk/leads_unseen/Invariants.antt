use Rattle.std.proofs.Common.{◌≡◌, ◌↔◌, drop, length}
use Rattle.plan_terms.specs.Terms.{Joins, graph_of}
use Rattle.short_paths.specs.inner.Walks.{IsUnseenPath}
use Rattle.short_paths.proofs.walk.leads_unseen.Given as goal

-- the rest of the links leads on from here exactly where all of them do from the start
abbrev pub invariant-loop-e : goal.invariant-loop-e
invariant-loop-e l = let g = graph_of l.graph in record {
  size : length l.seen ≡ length l.graph.net.now.nodes;
  same : IsUnseenPath (Joins g) l.seen l.at.0 l.to.0 (drop l.e-index l.path) ↔ IsUnseenPath (Joins g) l.fn.seen l.fn.from.0 l.to.0 l.path;
}
