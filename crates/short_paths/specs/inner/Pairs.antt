-- the numbers of each two of some nodes, in the order of the higher node and then of the lower one
use Rattle.std.specs.Prelude.{◌≡◌, ◌≢◌, ℕ, ◌+◌, ◌-◌, ◌*◌, ◌/◌, ◌^◌, ◌<◌, ◌≤◌, ◌==◌, ◌++◌, cond, List, Option, Some, All, length, map, max, min, slice_index, take}
use Rattle.plan_terms.specs.Terms.{IsDistance}
use Rattle.short_paths.{specs.declared.distance_table.TheConstants.APART, specs.inner.Tables.{IsTable, answer_of}}

-- how many pairs n nodes have
abbrev pub pair_count : ℕ → ℕ
pair_count n = n * (n - 1) / 2

-- the place of the number of two nodes: after the pairs of the nodes below the higher one
abbrev pub pair_place : ℕ → ℕ → ℕ
pair_place low high = pair_count high + low

-- the distance of two nodes, either way round, by the numbers of all pairs
abbrev pub pair_distance : List ℕ → ℕ → ℕ → Option ℕ
pair_distance pairs a b = cond (a == b) (Some 0) (answer_of APART (slice_index pairs (pair_place (min a b) (max a b))))

-- a number of a search as the table keeps it
abbrev pub narrowed : ℕ → ℕ
narrowed d = min d (2 ^ 64 - 1)

-- the numbers of node `high` with each node before it have been added to the others
pub record AddsRow (joins : ℕ → ℕ → ℕ → Type 0) (lengths : List ℕ) (far high : ℕ) (old new : List ℕ) : Type 0 where
  pub found : List ℕ
  pub table : IsTable joins lengths far high found
  pub within : high < length found
  pub few : length found ≤ 128
  pub is : new ≡ old ++ map narrowed (take high found)

-- the distances of each two of n nodes, in their places
pub record ArePairs (joins : ℕ → ℕ → ℕ → Type 0) (lengths : List ℕ) (n : ℕ) (pairs : List ℕ) : Type 0 where
  pub size : length pairs ≡ pair_count n
  pub each : (low high : ℕ) → low < high → high < n → IsDistance joins lengths high low (answer_of APART (slice_index pairs (pair_place low high)))
  pub low : All (λ d. d ≢ APART → d < 2 ^ 39) pairs
