-- routings that carry demands (multicommodity flow)
use Rattle.std.specs.Prelude.{◌≡◌, ℕ, ◌*◌, ◌≤◌, ◌<◌, ◌==◌, if◌then◌else◌, List, All, Some, slice_get, slice_index, sum_by}
use Rattle.net_core.{specs.declared.demand.Demand.Demand, specs.declared.plan.Flow.Flow, specs.declared.plan.Routing.Routing, specs.Terms.names_link}
use Rattle.plan_terms.specs.Paths.{IsPath}

-- what the flows of demand k sum to
abbrev pub sent : List Flow → ℕ → ℕ
sent flows k = sum_by (λ f. (if f.demand == k then f.num else 0)) flows

-- what the flows over link e sum to
abbrev pub load : List Flow → ℕ → ℕ
load flows e = sum_by (λ f. (if names_link e f.path then f.num else 0)) flows

-- a flow is positive and follows a path between the ends of its demand
pub record IsFlow (joins : ℕ → ℕ → ℕ → Type 0) (demands : List Demand) (f : Flow) : Type 0 where
  pub positive : 0 < f.num
  pub of : Demand
  pub at : slice_get demands f.demand ≡ Some of
  pub path : IsPath joins of.from.0 of.to.0 f.path

-- The routing carries the demands within nums over scale: each flow follows a path of its demand, the flows
-- of a demand sum to its need, and those over a link sum to at most its number.
pub record Carries (joins : ℕ → ℕ → ℕ → Type 0) (demands : List Demand) (scale : ℕ) (nums : List ℕ) (routing : Routing) : Type 0 where
  pub den : 0 < routing.den
  pub flows : All (IsFlow joins demands) routing.flows
  pub met : (k : ℕ) (d : Demand) → slice_get demands k ≡ Some d → sent routing.flows k ≡ d.need * scale * routing.den
  pub within : (e : ℕ) → load routing.flows e ≤ slice_index nums e * routing.den
