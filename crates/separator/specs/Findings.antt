-- what is found of a state at some capacities: that they carry the demands, a cut that they violate, or evidence
use Rattle.std.specs.Prelude.{List}
use Rattle.plan_terms.specs.Terms.{Demand, Caps, Graph}
use Rattle.warm_routing.specs.Terms.{IsEvidenceHere, IsRouted, RouteAnswer, Routed, Violated, Wide}
pub use Rattle.warm_routing.specs.Terms.{IsFoundCutOf}

module _ (g : Graph) (demands : List Demand) (caps : Caps) where
  -- a routing, a cut that the capacities violate, or evidence of this state and these capacities
  abbrev pub IsFinding : RouteAnswer → Type 0
  IsFinding (Routed routing) = IsRouted g demands caps routing
  IsFinding (Violated cut) = IsFoundCutOf g demands caps cut
  IsFinding (Wide evidence) = IsEvidenceHere g demands caps evidence
