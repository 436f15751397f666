-- the capacities of a share over a common divisor, and what is found of them
use Rattle.std.{specs.Prelude.{◌≡◌, ℕ, ◌+◌, ◌*◌, ◌^◌, ◌<◌, ◌≤◌, List, All, Some, length, map, slice_get}, specs.Int.◌∣◌}
use Rattle.plan_terms.specs.Terms.{Evidence, Route, Master, RouteColumn, DemandSlack, LinkSlack, Demand, Link, Caps, Routing, Case}
use Rattle.module_prices.specs.declared.cheapest.UnitPair.{UnitPair}
use Rattle.plan_types.{specs.declared.quality.Cause.TheVariants.{Wide, Cuts}, specs.declared.quality.Quality.Quality, specs.declared.quality.Quality.TheVariants.{Tight, Loose}, specs.declared.quality.Share.Share}
use Rattle.route_law.specs.Terms.{caps_times, flow_times, beside}
use Rattle.master_law.specs.Terms.{share_caps}
use Rattle.plan_rounds.{specs.inner.Answered.{AreRoutedStates, IsEvidenceOfState}, specs.declared.shares.ShareCaps.ShareCaps}

-- capacities, and the same with scale and numbers over a divisor
pub record IsDividedCaps (caps : Caps) (c : ShareCaps) : Type 0 where
  pub whole : c.whole ≡ caps
  pub positive : 0 < c.divisor
  pub times : caps_times c.divisor c.divided ≡ c.whole

-- the share's capacities, and the same over such a divisor
abbrev pub IsDividedShare : List Link → List UnitPair → Share → ShareCaps → Type 0
IsDividedShare links pairs share c = IsDividedCaps (share_caps links pairs share) c

-- the number is positive, and divides the scale and each of the numbers
pub record DividesAll (scale : ℕ) (nums : List ℕ) (d : ℕ) : Type 0 where
  pub positive : 0 < d
  pub of_scale : d ∣ scale
  pub of_nums : All (λ n. d ∣ n) nums

-- Each flow a number of times, over a denominator that is a common part smaller; the number and the new denominator have no
-- common divisor above 1.
pub record IsUndivided (divisor : ℕ) (old new : Routing) : Type 0 where
  pub common : ℕ
  pub factor : ℕ
  pub positive : 0 < common
  pub den : old.den ≡ common * new.den
  pub divisor_is : divisor ≡ common * factor
  pub flows : new.flows ≡ map (flow_times factor) old.flows
  pub apart : (d : ℕ) → d ∣ new.den → d ∣ factor → d ≡ 1

-- as many routings, each with its flows multiplied and over a smaller denominator
pub record AreUndivided (divisor : ℕ) (old new : List Routing) : Type 0 where
  pub count : length new ≡ length old
  pub each : (i : ℕ) (a b : Routing) → slice_get old i ≡ Some a → slice_get new i ≡ Some b → IsUndivided divisor a b

-- demand k needs 2^62 or more over the scale
pub record HasWideNeed (demands : List Demand) (scale k : ℕ) : Type 0 where
  pub demand : Demand
  pub at : slice_get demands k ≡ Some demand
  pub wide : 2 ^ 62 ≤ demand.need * scale

-- the slacks of the first n rows of a routing program with this number of links
pub record AreSlackNames (links n : ℕ) (names : List RouteColumn) : Type 0 where
  pub count : length names ≡ n
  pub each : (row : ℕ) → row < n → slice_get names row ≡ Some (beside links (λ e. LinkSlack (record { 0 = e })) (λ k. DemandSlack k) row)

-- the evidence, with other capacities if it is of a state
abbrev pub at_caps : Caps → Evidence → Evidence
at_caps caps (Route state within basis kind) = Route state caps basis kind
at_caps caps (Master basis kind) = Master basis kind

-- what is found at the capacities of a share where they violate no cut: each state is routed, or one of them is too wide
abbrev pub IsQualityAt : Case → Caps → Share → Quality → Type 0
IsQualityAt p caps share (Tight fractional) = (fractional.share ≡ share) × AreRoutedStates p caps (length p.listed + 1) fractional.routings
IsQualityAt p caps share (Loose (Wide evidence)) = IsEvidenceOfState p caps evidence
IsQualityAt p caps share (Loose Cuts) = ⊥
