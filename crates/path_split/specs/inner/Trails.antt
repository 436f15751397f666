-- walks along legs with flow left
use Rattle.std.{specs.Prelude.{◌≡◌, ◌≢◌, ℕ, ◌-◌, ◌<◌, ◌≤◌, ◌⊎◌, List, [], ◌∷◌, length, map, slice_index, slice_set}, specs.List.AllByRecursion}
use Rattle.plan_terms.specs.Terms.{LinkId, AreDifferent}
use Rattle.path_split.{specs.declared.leg.Leg.Leg, specs.inner.Legs.{leaves, leg_at, picked}}

-- the legs at these places lead from a to b
abbrev pub Chain : List Leg → ℕ → List ℕ → ℕ → Type 0
Chain legs a [] b = a ≡ b
Chain legs a (k ∷ ks) b = ((leg_at legs k).from.0 ≡ a) × Chain legs (leg_at legs k).to.0 ks b

-- the nodes that the legs at these places leave
abbrev pub froms : List Leg → List ℕ → List ℕ
froms legs ks = map (λ k. (leg_at legs k).from.0) ks

-- the links of the legs at these places
abbrev pub trail_links : List Leg → List ℕ → List LinkId
trail_links legs ks = map (λ k. (leg_at legs k).link) ks

-- x is one of the list
abbrev pub Has : ℕ → List ℕ → Type 0
Has x [] = ⊥
Has x (y ∷ ys) = (x ≡ y) ⊎ Has x ys

-- the leg at place k has flow left
abbrev pub IsLive : List Leg → List ℕ → ℕ → Type 0
IsLive legs lefts k = (k < length legs) × (0 < slice_index lefts k)

-- A walk from `from`: legs with flow left lead to `at`, leave different nodes, and don't leave `to`.
pub record IsWalk (legs : List Leg) (lefts : List ℕ) (from to : ℕ) (trail : List ℕ) (at : ℕ) : Type 0 where
  pub chain : Chain legs from trail at
  pub live : AllByRecursion (λ k. IsLive legs lefts k) trail
  pub different : AreDifferent (froms legs trail)
  pub before : AllByRecursion (λ x. x ≢ to) (froms legs trail)

-- Flow goes on: legs join n nodes, and from `from`, and from each node but `to` to which a leg with flow left leads, some flow leaves.
pub record AreSteady (legs : List Leg) (lefts : List ℕ) (n from to : ℕ) : Type 0 where
  pub long : length lefts ≡ length legs
  pub heads : (k : ℕ) → k < length legs → (leg_at legs k).to.0 < n
  pub first : 0 < picked (leaves from) legs lefts
  pub on : (k : ℕ) → k < length legs → 0 < slice_index lefts k → (leg_at legs k).to.0 ≢ to → 0 < picked (leaves (leg_at legs k).to.0) legs lefts

-- an amount is taken off the legs at these places, one after another
abbrev pub less : List ℕ → List ℕ → ℕ → List ℕ
less lefts [] num = lefts
less lefts (k ∷ ks) num = less (slice_set lefts k (slice_index lefts k - num)) ks num

-- at least this is left of the legs at these places, which are different
pub record AreEnough (lefts ks : List ℕ) (num : ℕ) : Type 0 where
  pub each : AllByRecursion (λ k. (k < length lefts) × (num ≤ slice_index lefts k)) ks
  pub different : AreDifferent ks
