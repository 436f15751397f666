-- what is answered of the demands of a state within capacities
use Rattle.std.specs.Prelude.{◌≡◌, ℕ, ◌+◌, ◌^◌, ◌≤◌, ◌<◌, List, All, length}
use Rattle.plan_terms.specs.Terms.{Evidence, Route, Master, Demand, Caps, Routing, Graph, Joins, IsRight, Carries, Keeps, Violates}
use Rattle.metric_cut.{specs.Cuts.IsCutOf, specs.declared.cut.Cut.Cut}
use Rattle.route_law.specs.Terms.{ArePricedLengths, IsRouteEvidence, IsLowestRouting}
use Rattle.flow_router.{specs.declared.answer.RouteAnswer.RouteAnswer, specs.declared.answer.RouteAnswer.TheVariants.{Routed, Violated, Wide}}

module _ (g : Graph) (demands : List Demand) (caps : Caps) where
  -- a routing in lowest terms that carries the demands, with few flows and numbers that fit
  pub record IsRouted (routing : Routing) : Type 0 where
    pub carries : Carries (Joins g) demands caps.scale caps.nums routing
    pub lowest : IsLowestRouting routing
    pub few : length routing.flows ≤ length g.links + length demands
    pub den_limit : routing.den < 2 ^ 62
    pub nums_limit : All (λ f. f.num < 2 ^ 124) routing.flows

  -- a cut that the capacities violate, by its right side at the demands; its lengths are what the state keeps of priced ones
  pub record IsViolatedCut (cut : Cut) : Type 0 where
    pub of : IsCutOf g cut
    pub lengths : List ℕ
    pub priced : ArePricedLengths g demands caps lengths
    pub keeps : Keeps g lengths cut.lengths
    pub violated : (right : ℕ) → IsRight (Joins g) cut.lengths demands right
        → Violates caps (record { state = cut.state; lengths = cut.lengths; right = right })

  -- evidence of this state and these capacities
  abbrev pub IsEvidenceHere : Evidence → Type 0
  IsEvidenceHere (Route state within basis kind) = (state.0 ≡ g.state) × (within ≡ caps) × IsRouteEvidence g demands caps basis kind
  IsEvidenceHere (Master basis kind) = ⊥

  abbrev pub IsRouteAnswer : RouteAnswer → Type 0
  IsRouteAnswer (Routed routing) = IsRouted routing
  IsRouteAnswer (Violated cut) = IsViolatedCut cut
  IsRouteAnswer (Wide evidence) = IsEvidenceHere evidence
