-- the distances from one node
use Rattle.std.specs.Prelude.{◌≡◌, ℕ, ◌<◌, List, Option, None, length, slice_index_or}
use Rattle.plan_terms.specs.Terms.{IsDistance}

-- one answer for each of n nodes: its distance from a
pub record AreDistances (joins : ℕ → ℕ → ℕ → Type 0) (lengths : List ℕ) (a n : ℕ) (answers : List (Option ℕ)) : Type 0 where
  pub count : length answers ≡ n
  pub each : (b : ℕ) → b < n → IsDistance joins lengths a b (slice_index_or answers b None)
