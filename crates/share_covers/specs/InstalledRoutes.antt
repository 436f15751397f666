-- what the states answer within capacities
use Rattle.std.specs.Prelude.{◌≡◌, ℕ, ◌+◌, ◌≤◌, List, Some, length, slice_get}
use Rattle.plan_terms.specs.Terms.{Evidence, Link, Caps, Routing, Case, graph_in, Joins, capacities, Carries}
use Rattle.flow_mending.specs.Terms.{IsEvidenceHere, IsRouted}
use Rattle.share_covers.{specs.declared.routes.InstalledRoutes.InstalledRoutes, specs.declared.routes.InstalledRoutes.TheVariants.{Routed, Wide, Short}}

-- the capacities of counts, at the scale 1
abbrev pub installed_caps : List Link → List (List ℕ) → Caps
installed_caps links counts = record { scale = 1; nums = capacities links counts }

-- in the order of the states one routing for each, in lowest terms and within its limits, that carries the demands there
pub record AreRoutedWithin (p : Case) (caps : Caps) (routings : List Routing) : Type 0 where
  pub states : length routings ≡ length p.listed + 1
  pub each : (s : ℕ) (r : Routing) → slice_get routings s ≡ Some r → IsRouted (graph_in p s) p.demands caps r

-- evidence that a number of some state is too wide
pub record IsWideWithin (p : Case) (caps : Caps) (evidence : Evidence) : Type 0 where
  pub state : ℕ
  pub listed_state : state ≤ length p.listed
  pub here : IsEvidenceHere (graph_in p state) p.demands caps evidence

-- no routing carries the demands in state s
pub record IsShortWithin (p : Case) (caps : Caps) (s : ℕ) : Type 0 where
  pub listed_state : s ≤ length p.listed
  pub none : (routing : Routing) → Carries (Joins (graph_in p s)) p.demands caps.scale caps.nums routing → ⊥

abbrev pub IsRoutesAnswer : Case → Caps → InstalledRoutes → Type 0
IsRoutesAnswer p caps (Routed routings) = AreRoutedWithin p caps routings
IsRoutesAnswer p caps (Wide evidence) = IsWideWithin p caps evidence
IsRoutesAnswer p caps (Short state) = IsShortWithin p caps state.0
