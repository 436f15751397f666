use Rattle.std.proofs.Common.{ℕ, ◌<◌}
use Rattle.plan_terms.specs.Terms.{Joins, graph_of}
use Rattle.plan_checker.{specs.Carried.FollowsPath, specs.Places.HoldsAt}
use Rattle.plan_checker.proofs.paths.first_astray.Given as goal

-- the flows so far follow paths
abbrev pub invariant-loop-f : goal.invariant-loop-f
invariant-loop-f l = let g = graph_of l.graph in record {
  none : (k : ℕ) → k < l.f → HoldsAt l.flows k (λ flow. FollowsPath (Joins g) l.demands flow → ⊥) → ⊥;
  paths : (k : ℕ) → k < l.f → HoldsAt l.flows k (FollowsPath (Joins g) l.demands);
}
