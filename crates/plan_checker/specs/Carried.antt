-- findings on the routings of a plan
use Rattle.std.specs.Prelude.{◌≡◌, ◌≢◌, ℕ, ◌*◌, ◌<◌, List, Some, slice_get}
use Rattle.plan_terms.specs.Terms.{Case, graph_in, Joins, Demand, Flow, Routing, load, sent, IsPath}
use Rattle.plan_checker.{specs.Places.{HoldsAt, IsLeastPair}, specs.declared.finding.Finding.Finding, specs.declared.finding.Finding.TheVariants.{BadPath, NotCarried, Overloaded}}

-- the flow follows a path between the ends of its demand
pub record FollowsPath (joins : ℕ → ℕ → ℕ → Type 0) (demands : List Demand) (flow : Flow) : Type 0 where
  pub of : Demand
  pub at : slice_get demands flow.demand ≡ Some of
  pub path : IsPath joins of.from.0 of.to.0 flow.path

-- flow f of state s follows no path
abbrev pub HasBadPath : Case → List Routing → ℕ → ℕ → Type 0
HasBadPath p routings s f = HoldsAt routings s (λ r. HoldsAt r.flows f (λ flow. FollowsPath (Joins (graph_in p s)) p.demands flow → ⊥))

-- the flows of demand k don't sum to its need in state s, at this scale
abbrev pub IsUncarried : Case → ℕ → List Routing → ℕ → ℕ → Type 0
IsUncarried p scale routings s k = HoldsAt routings s (λ r. HoldsAt p.demands k (λ d. sent r.flows k ≢ d.need * scale * r.den))

-- the flows over link e are more than its capacity in state s, both at the scale that the needs are taken at
abbrev pub IsOverloaded : List ℕ → List Routing → ℕ → ℕ → Type 0
IsOverloaded nums routings s e = HoldsAt routings s (λ r. HoldsAt nums e (λ n. n * r.den < load r.flows e))

-- the least state with such a flow, and its first
abbrev pub HoldsBadPath : Case → List Routing → Finding → Type 0
HoldsBadPath p routings (BadPath s f) = IsLeastPair (HasBadPath p routings) s.0 f
HoldsBadPath p routings _ = ⊥

-- the least state with such a demand, and its first
abbrev pub HoldsNotCarried : Case → List Routing → Finding → Type 0
HoldsNotCarried p routings (NotCarried s k) = IsLeastPair (IsUncarried p 1 routings) s.0 k
HoldsNotCarried p routings _ = ⊥

-- the least state with such a link, and its first
abbrev pub HoldsOverloaded : List ℕ → List Routing → Finding → Type 0
HoldsOverloaded nums routings (Overloaded s e) = IsLeastPair (IsOverloaded nums routings) s.0 e.0
HoldsOverloaded nums routings _ = ⊥
