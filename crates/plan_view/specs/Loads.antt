-- what the routings of a plan bring onto links, state by state, and the first of the greatest fractions
use Rattle.std.specs.Prelude.{◌≡◌, ℕ, ◌*◌, ◌≤◌, ◌<◌, List, [], Option, None, Some, slice_index_or}
use Rattle.plan_terms.specs.Terms.{LinkId, Routing, load}

-- the routing of state s; where there is none, no flows over 0
abbrev pub routing_in : List Routing → ℕ → Routing
routing_in routings s = slice_index_or routings s (record { den = 0; flows = [] })

-- the load of link e in state s, over the state's denominator
abbrev pub load_in : List Routing → ℕ → ℕ → ℕ
load_in routings s e = load (routing_in routings s).flows e

-- the denominator of state s
abbrev pub den_in : List Routing → ℕ → ℕ
den_in routings s = (routing_in routings s).den

-- k is the first below n of the greatest fractions num k / den k; a fraction over 0 doesn't count
pub record IsFirstOfGreatest (n : ℕ) (num den : ℕ → ℕ) (k : ℕ) : Type 0 where
  pub below : k < n
  pub counts : 0 < den k
  pub most : (j : ℕ) → j < n → 0 < den j → num j * den k ≤ num k * den j
  pub first : (j : ℕ) → j < k → 0 < den j → num j * den k < num k * den j

-- the first of the greatest, or none where no fraction counts
abbrev pub IsFirstIfAny : ℕ → (ℕ → ℕ) → (ℕ → ℕ) → Option ℕ → Type 0
IsFirstIfAny n num den None = (j : ℕ) → j < n → den j ≡ 0
IsFirstIfAny n num den (Some k) = IsFirstOfGreatest n num den k

-- the first link of greatest load over capacity, which has some load; none where no link has any
abbrev pub IsFullestLink : ℕ → (ℕ → ℕ) → (ℕ → ℕ) → Option LinkId → Type 0
IsFullestLink n load capacity None = (e : ℕ) → e < n → load e ≡ 0
IsFullestLink n load capacity (Some k) = (0 < load k.0) × IsFirstOfGreatest n load capacity k.0
