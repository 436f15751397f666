-- counts of modules that are asked about: routings within them, or why they aren't known to carry the demands
use Rattle.std.specs.Prelude.{◌≡◌, ℕ, ◌+◌, ◌≤◌, List, Some, ◌⊎◌, All, length, slice_get}
use Rattle.plan_terms.specs.Terms.{Caps, Routing, Case, graph_in, Joins, AreCounts, AreWithinLimits, capacities, IsCut, Carries, Violates, Evidence}
use Rattle.plan_report.specs.Terms.{IsRoutingInForm}
use Rattle.route_law.specs.Terms.{IsLowestRouting}
use Rattle.separator.specs.Terms.{IsEvidenceHere}
use Rattle.able_counts.{specs.declared.able_test.AbleTest.AbleTest, specs.declared.stop.Stop.Stop, specs.declared.stop.Stop.TheVariants.{Cut, Wide}}

-- ---- routings

-- a routing in form and in lowest terms that carries the demands in state s within these capacities
pub record IsRoutingWithin (p : Case) (s : ℕ) (nums : List ℕ) (r : Routing) : Type 0 where
  pub carries : Carries (Joins (graph_in p s)) p.demands 1 nums r
  pub form : IsRoutingInForm p.links p.demands r
  pub lowest : IsLowestRouting r

-- one routing for each state that carries the demands within these capacities
pub record AreRoutingsWithin (p : Case) (nums : List ℕ) (routings : List Routing) : Type 0 where
  pub states : length routings ≡ length p.listed + 1
  pub each : (s : ℕ) (r : Routing) → slice_get routings s ≡ Some r → IsRoutingWithin p s nums r

-- as many routings as before, each of them the old one, or one that carries the demands within these capacities
pub record AreKeptOrWithin (p : Case) (nums : List ℕ) (old new : List Routing) : Type 0 where
  pub same : length new ≡ length old
  pub each : (s : ℕ) (r : Routing) → slice_get new s ≡ Some r → (slice_get old s ≡ Some r) ⊎ IsRoutingWithin p s nums r

-- ---- why not

-- capacities of whole units
abbrev pub whole_caps : List ℕ → Caps
whole_caps nums = record { scale = 1; nums = nums }

-- evidence that a number of some state's routing program is too wide at these capacities
pub record IsWideSomewhere (p : Case) (caps : Caps) (evidence : Evidence) : Type 0 where
  pub state : ℕ
  pub listed_state : state ≤ length p.listed
  pub here : IsEvidenceHere (graph_in p state) p.demands caps evidence

-- a cut of the case that the capacities violate, with its right side at the demands; or evidence
abbrev pub IsStopAt : Case → Caps → Stop → Type 0
IsStopAt p caps (Cut line) = IsCut p line × Violates caps line
IsStopAt p caps (Wide evidence) = IsWideSomewhere p caps evidence

-- ---- the test

-- a routing of state s, within whatever capacities
pub record IsRoutingOf (p : Case) (s : ℕ) (r : Routing) : Type 0 where
  pub nums : List ℕ
  pub within : IsRoutingWithin p s nums r

-- what a test of the case keeps: cuts of the case, and a routing for each state
pub record IsTestOf (p : Case) (t : AbleTest) : Type 0 where
  pub cuts : All (IsCut p) t.cuts
  pub states : length t.routings ≡ length p.listed + 1
  pub each : (s : ℕ) (r : Routing) → slice_get t.routings s ≡ Some r → IsRoutingOf p s r

-- counts in their limits, and a test of the case whose routings carry the demands within their capacities
pub record AreRoutedCounts (p : Case) (counts : List (List ℕ)) (t : AbleTest) : Type 0 where
  pub shape : AreCounts p.links counts
  pub limits : AreWithinLimits p.links counts
  pub test : IsTestOf p t
  pub routings : AreRoutingsWithin p (capacities p.links counts) t.routings
