-- the routings of a share as those of counts that cover it
use Rattle.std.specs.Prelude.{◌≡◌, ℕ, ◌+◌, ◌*◌, ◌^◌, ◌<◌, ◌≤◌, ◌⊎◌, List, Option, None, Some, length, slice_get}
use Rattle.plan_terms.specs.Terms.{Demand, Routing, Caps, Graph, Joins, Carries, Case}
use Rattle.module_prices.specs.declared.cheapest.UnitPair.{UnitPair}
use Rattle.plan_types.{specs.declared.quality.Fractional.Fractional, specs.declared.quality.Quality.Quality, specs.declared.quality.Quality.TheVariants.{Tight, Loose}}
use Rattle.master_law.specs.Terms.{AreUnitPairs}
use Rattle.route_law.specs.Terms.{IsLowestRouting, over_times}
use Rattle.plan_law.specs.TightPlans.{CoversShare}
use Rattle.flow_mending.specs.Terms.{IsRouted}
use Rattle.share_covers.{specs.Choices.CarriesShare, specs.InstalledRoutes.{AreRoutedWithin, installed_caps}}

-- another routing, some number of times over, has the first one's flows over its denominator times the scale
pub record IsAtWhole (scale : ℕ) (routing whole : Routing) : Type 0 where
  pub times : ℕ
  pub positive : 0 < times
  pub same : over_times times whole ≡ record { den = scale * routing.den; flows = routing.flows }

-- the routing at scale 1 is in lowest terms and small
pub record IsSmallAtWhole (scale most : ℕ) (routing whole : Routing) : Type 0 where
  pub of : IsAtWhole scale routing whole
  pub lowest : IsLowestRouting whole
  pub few : length whole.flows ≤ most
  pub den_limit : whole.den < 2 ^ 62

-- the routing has too many flows, or at scale 1 a large denominator in any terms
abbrev pub IsLargeAtWhole : ℕ → ℕ → Routing → Type 0
IsLargeAtWhole scale most routing = (most < length routing.flows) ⊎ ((whole : Routing) → IsAtWhole scale routing whole → 2 ^ 62 ≤ whole.den)

-- the small routing at scale 1, or that there is none
abbrev pub IsWholeAnswer : ℕ → ℕ → Routing → Option Routing → Type 0
IsWholeAnswer scale most routing (Some whole) = IsSmallAtWhole scale most routing whole
IsWholeAnswer scale most routing None = IsLargeAtWhole scale most routing

-- capacities at scale 1 carry a routing over the scale
pub record CarriesAtWhole (g : Graph) (demands : List Demand) (caps : Caps) (scale : ℕ) (routing : Routing) : Type 0 where
  pub scale_one : caps.scale ≡ 1
  pub carries : Carries (Joins g) demands 1 caps.nums (record { den = scale * routing.den; flows = routing.flows })

-- a routing of a state within the capacities, or that the one over the scale is too large
abbrev pub IsStateAnswer : Graph → List Demand → Caps → ℕ → Routing → Option Routing → Type 0
IsStateAnswer g demands caps scale shared (Some routing) = IsRouted g demands caps routing
IsStateAnswer g demands caps scale shared None = IsLargeAtWhole scale (length g.links + length demands) shared

-- counts cover a share, whose routings carry the demands in each state
pub record CoversCarriedShare (p : Case) (fractional : Fractional) (counts : List (List ℕ)) : Type 0 where
  pub carries : CarriesShare p fractional.share fractional
  pub covers : (pairs : List UnitPair) → AreUnitPairs p.links pairs → CoversShare p.links pairs fractional.share counts

-- where a quality is tight, the counts cover its share
abbrev pub CoversQuality : Case → List (List ℕ) → Quality → Type 0
CoversQuality p counts (Tight fractional) = CoversCarriedShare p fractional counts
CoversQuality p counts (Loose cause) = Unit {0}

-- some state's routing of the share is large at scale 1
pub record HasLargeRouting (p : Case) (fractional : Fractional) : Type 0 where
  pub state : ℕ
  pub routing : Routing
  pub at : slice_get fractional.routings state ≡ Some routing
  pub large : IsLargeAtWhole fractional.share.scale (length p.links + length p.demands) routing

-- a routing for each state within the capacities of the counts, or that one of the share is too large
abbrev pub IsSharedAnswer : Case → Fractional → List (List ℕ) → Option (List Routing) → Type 0
IsSharedAnswer p fractional counts (Some routings) = AreRoutedWithin p (installed_caps p.links counts) routings
IsSharedAnswer p fractional counts None = HasLargeRouting p fractional
