-- what is known of a routing of a sound plan, so that numbers stay in their types
use Rattle.std.specs.Prelude.{ℕ, ◌*◌, ◌^◌, ◌≤◌, ◌<◌, List, length, slice_index}
use Rattle.plan_terms.specs.Terms.{Routing, load}

-- at most 65,536 flows over a positive denominator below 2^62, within these capacities
pub record IsLowRouting (capacities : List ℕ) (r : Routing) : Type 0 where
  pub few : length r.flows ≤ 2 ^ 16
  pub positive : 0 < r.den
  pub den : r.den < 2 ^ 62
  pub within : (e : ℕ) → load r.flows e ≤ slice_index capacities e * r.den
  pub low : (e : ℕ) → load r.flows e < 2 ^ 128
