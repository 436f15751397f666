-- capacities over a divisor: scale and numbers of a state's program, all divided by one number, carry as much
use Rattle.std.specs.Prelude.{ℕ, ◌*◌, ◌<◌, ◌↔◌, List, map}
use Rattle.plan_terms.specs.Terms.{RouteColumn, WideKind, Demand, Caps, CutLine, Routing, Graph, Joins, Carries, Violates}
use Rattle.route_law.{specs.PricedLengths.ArePricedLengths, specs.RouteEvidence.IsRouteEvidence, specs.Routings.flow_times}

-- these capacities over d times the scale
abbrev pub caps_times : ℕ → Caps → Caps
caps_times d caps = record { scale = d * caps.scale; nums = map (λ n. d * n) caps.nums }

-- each flow d times, over the denominator that it has
abbrev pub flows_times : ℕ → Routing → Routing
flows_times d r = record { den = r.den; flows = map (flow_times d) r.flows }

-- capacities violate a cut exactly where they do over d times the scale
abbrev pub DividedAreViolated : Type 0
DividedAreViolated = (d : ℕ) (caps : Caps) (cut : CutLine) → 0 < d → Violates caps cut ↔ Violates (caps_times d caps) cut

-- a routing that carries the demands within capacities carries them, each flow d times, over d times the scale
abbrev pub DividedAreCarried : Type 0
DividedAreCarried = (g : Graph) (demands : List Demand) (d : ℕ) (caps : Caps) (routing : Routing) → 0 < d
    → Carries (Joins g) demands caps.scale caps.nums routing
    → Carries (Joins g) demands (caps_times d caps).scale (caps_times d caps).nums (flows_times d routing)

-- evidence at capacities is evidence over d times the scale, with its basis and of its kind
abbrev pub DividedAreWide : Type 0
DividedAreWide = (g : Graph) (demands : List Demand) (d : ℕ) (caps : Caps) (basis : List RouteColumn) (kind : WideKind RouteColumn) → 0 < d
    → IsRouteEvidence g demands caps basis kind
    → IsRouteEvidence g demands (caps_times d caps) basis kind

-- lengths are priced at capacities exactly where they are over d times the scale
abbrev pub DividedArePriced : Type 0
DividedArePriced = (g : Graph) (demands : List Demand) (d : ℕ) (caps : Caps) (lengths : List ℕ) → 0 < d
    → ArePricedLengths g demands caps lengths ↔ ArePricedLengths g demands (caps_times d caps) lengths
