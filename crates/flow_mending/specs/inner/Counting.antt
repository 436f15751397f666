-- a routing that is counted
use Rattle.std.specs.Prelude.{◌≡◌, ℕ, ◌+◌, ◌*◌, ◌^◌, ◌<◌, ◌≤◌, List, Some, length, map, slice_get}
use Rattle.plan_terms.specs.Terms.{Demand, Flow, Routing, Graph, Joins, IsFlow, sent}
use Rattle.route_law.specs.Terms.{IsLowestRouting}

-- a flow along a path of its demand, whose number fits
abbrev pub IsCountedFlow : Graph → List Demand → Flow → Type 0
IsCountedFlow g demands f = IsFlow (Joins g) demands f × (f.num < 2 ^ 124)

-- what each demand needs over a scale and a denominator
abbrev pub needs_over : ℕ → ℕ → List Demand → List ℕ
needs_over scale den demands = map (λ d. d.need * scale * den) demands

-- the flows of each demand sum to what it needs
abbrev pub AreMet : List Demand → ℕ → Routing → Type 0
AreMet demands scale r = (k : ℕ) (d : Demand) → slice_get demands k ≡ Some d → sent r.flows k ≡ d.need * scale * r.den

-- a routing in lowest terms with few flows, whose denominator fits
pub record HasForm (links demands : ℕ) (r : Routing) : Type 0 where
  pub positive : 0 < r.den
  pub den_limit : r.den < 2 ^ 62
  pub few : length r.flows ≤ links + demands
  pub lowest : IsLowestRouting r
