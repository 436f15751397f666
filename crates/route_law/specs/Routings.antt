-- routings in lowest terms, and demands that some path carries
use Rattle.std.{specs.Prelude.{◌≡◌, ℕ, ◌*◌, ◌<◌, List, All, Some, map, slice_get}, specs.Int.◌∣◌}
use Rattle.plan_terms.specs.Terms.{Demand, Flow, Routing, Graph, Joins, AreApart}

-- 1 alone divides the denominator and each numerator
abbrev pub IsLowestRouting : Routing → Type 0
IsLowestRouting r = (d : ℕ) → d ∣ r.den → All (λ f. d ∣ f.num) r.flows → d ≡ 1

-- the ends of no demand that has a need are apart
abbrev pub AreJoined : Graph → List Demand → Type 0
AreJoined g demands = (k : ℕ) (d : Demand) → slice_get demands k ≡ Some d → 0 < d.need → AreApart (Joins g) d.from.0 d.to.0 → ⊥

-- the flow d times
abbrev pub flow_times : ℕ → Flow → Flow
flow_times d f = record { demand = f.demand; path = f.path; num = d * f.num }

-- this routing over a denominator that is d times as large
abbrev pub over_times : ℕ → Routing → Routing
over_times d r = record { den = d * r.den; flows = map (flow_times d) r.flows }
