-- rows of a table of least weights: one for each need, from 0 on
use Rattle.std.specs.Prelude.{◌≡◌, ℕ, ◌+◌, ◌-◌, ◌<◌, ◌≤◌, ◌^◌, ◌⊎◌, List, length, min, slice_index}
use Rattle.line_check.specs.CoverWeights.{CoversNeed, total_of_kinds}

-- the first entries of the row after a row, by one kind more
pub record IsNextFront (row : List ℕ) (size weight : ℕ) (next : List ℕ) : Type 0 where
  pub first : slice_index next 0 ≡ 0
  pub each : (r : ℕ) → 0 < r → r < length next → slice_index next r ≡ min (slice_index row r) (slice_index next (r - size) + weight)

-- the row after a row, by one kind more: nothing covers 0, and what covers more has one of the new kind, or none
pub record IsNextRow (row : List ℕ) (size weight : ℕ) (next : List ℕ) : Type 0 where
  pub same : length next ≡ length row
  pub front : IsNextFront row size weight next

-- no cover weighs less, and one weighs this where it is below 2^45
pub record IsCoverBound (sizes weights : List ℕ) (need bound : ℕ) : Type 0 where
  pub at_most : (others : List ℕ) → CoversNeed sizes need others → bound ≤ total_of_kinds weights others
  pub reached : (2 ^ 45 ≤ bound) ⊎ ((numbers : List ℕ) × CoversNeed sizes need numbers × (bound ≡ total_of_kinds weights numbers))

-- the entries of a row bound the covers of each need above 0
abbrev pub AreCoverBounds : List ℕ → List ℕ → List ℕ → Type 0
AreCoverBounds sizes weights row = (r : ℕ) → 0 < r → r < length row → IsCoverBound sizes weights r (slice_index row r)
