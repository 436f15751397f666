-- routings along paths
use Rattle.std.specs.Prelude.{◌≡◌, ℕ, List, All, Some, slice_get}
use Rattle.plan_terms.specs.Terms.{Case, graph_in, Joins, Routing}
use Rattle.plan_checker.specs.Carried.{FollowsPath}

-- in each state each flow follows a path
abbrev pub FollowPaths : Case → List Routing → Type 0
FollowPaths p routings = (s : ℕ) (r : Routing) → slice_get routings s ≡ Some r → All (FollowsPath (Joins (graph_in p s)) p.demands) r.flows
