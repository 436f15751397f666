-- the plan that takes one path for each demand that has a need, in each state, and covers the greatest load of each link
use Rattle.std.specs.Prelude.{◌≡◌, ℕ, ◌+◌, ◌<◌, List, [], ◌∷◌, Some, All, AllPairs, Any, length, map, max, slice_get}
use Rattle.net_core.{specs.declared.demand.Demand.Demand, specs.declared.plan.Flow.Flow, specs.declared.plan.Routing.Routing, specs.Terms.{Case, graph_in, Joins}}
use Rattle.plan_terms.{specs.Capacities.{AreCounts, capacities, total_cost}, specs.Covers.CoverLoads, specs.Flows.{Carries, load}, specs.LeastPaths.IsLeastPath, specs.Prices.ArePriceLengths}

-- the whole need of a demand along the least of its shortest paths
pub record IsLeastFlow (joins : ℕ → ℕ → ℕ → Type 0) (lengths : List ℕ) (demands : List Demand) (f : Flow) : Type 0 where
  pub of : Demand
  pub at : slice_get demands f.demand ≡ Some of
  pub positive : 0 < of.need
  pub num : f.num ≡ of.need
  pub path : IsLeastPath joins lengths of.from.0 of.to.0 f.path

-- one such flow for each demand that has a need, in the order of the demands
pub record IsLeastRouting (joins : ℕ → ℕ → ℕ → Type 0) (lengths : List ℕ) (demands : List Demand) (routing : Routing) : Type 0 where
  pub whole : routing.den ≡ 1
  pub each : All (IsLeastFlow joins lengths demands) routing.flows
  pub every : (k : ℕ) (d : Demand) → slice_get demands k ≡ Some d → 0 < d.need → Any (λ f. f.demand ≡ k) routing.flows
  pub ordered : AllPairs (λ f g. f.demand < g.demand) routing.flows

-- the greatest load of link e over the routings
abbrev pub peak : List Routing → ℕ → ℕ
peak [] e = 0
peak (r ∷ rs) e = max (load r.flows e) (peak rs e)

-- lengths of 1 or more: the price lengths, each plus 1
abbrev pub raised : List ℕ → List ℕ
raised prices = map (λ n. n + 1) prices

-- The fallback plan: in each state each demand that has a need takes the least of its paths that are shortest under the price lengths plus 1, each link's
-- counts cover its greatest load less its pre-installed capacity, and so the routings carry the demands in each state.
pub record IsFallback (p : Case) (counts : List (List ℕ)) (routings : List Routing) (cost : ℕ) : Type 0 where
  pub prices : List ℕ
  pub priced : ArePriceLengths p.links prices
  pub states : length routings ≡ length p.listed + 1
  pub routed : (s : ℕ) (r : Routing) → slice_get routings s ≡ Some r → IsLeastRouting (Joins (graph_in p s)) (raised prices) p.demands r
  pub carries : (s : ℕ) (r : Routing) → slice_get routings s ≡ Some r → Carries (Joins (graph_in p s)) p.demands 1 (capacities p.links counts) r
  pub shape : AreCounts p.links counts
  pub covered : CoverLoads p.links (peak routings) counts
  pub paid : cost ≡ total_cost p.links counts
