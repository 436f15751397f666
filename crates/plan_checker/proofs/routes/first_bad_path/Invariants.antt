use Rattle.std.proofs.Common.{ℕ, ◌<◌, All}
use Rattle.plan_terms.specs.Terms.{graph_in, Joins, case_of}
use Rattle.plan_checker.{specs.Carried.{FollowsPath, HasBadPath}, specs.Places.HoldsAt}
use Rattle.plan_checker.proofs.routes.first_bad_path.Given as goal

-- the flows of the states so far follow paths
abbrev pub invariant-loop-s : goal.invariant-loop-s
invariant-loop-s l = let p = case_of l.instance in record {
  none : (t j : ℕ) → t < l.s → HasBadPath p l.routings t j → ⊥;
  paths : (t : ℕ) → t < l.s → HoldsAt l.routings t (λ r. All (FollowsPath (Joins (graph_in p t)) p.demands) r.flows);
}
