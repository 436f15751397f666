-- rows combined with the pivot row
use Rattle.std.{specs.Prelude.{ℕ, ℤ, List, length, ◌≡◌, ◌≢◌, ◌<◌, ◌≤◌}, specs.List.slice_get}
use Rattle.checked_fraction.specs.declared.row.Row.{Row}
use Rattle.simplex_core.{specs.Turned.IsCombined, specs.Tables.nums_of}

-- row i is combined unless it is row r, and the others are as they were
pub record CombinesAt (m : ℕ) (old new : List Row) (products : List ℤ) (pivot : ℕ → ℤ) (q : ℤ) (r i : ℕ) : Type 0 where
  pub count : length new ≡ length old
  pub size : length (nums_of (slice_get new i)) ≡ length (nums_of (slice_get old i))
  pub done : i ≢ r → IsCombined m old new products pivot q i
  pub kept : i ≡ r → slice_get new i ≡ slice_get old i
  pub others : (j : ℕ) → j ≢ i → slice_get new j ≡ slice_get old j

-- each of the first n rows is combined, but for row r; the others are as they were
pub record AreCombined (m : ℕ) (old new : List Row) (products : List ℤ) (pivot : ℕ → ℤ) (q : ℤ) (r n : ℕ) : Type 0 where
  pub count : length new ≡ length old
  pub sizes : (i : ℕ) → i < length old → length (nums_of (slice_get new i)) ≡ length (nums_of (slice_get old i))
  pub done : (i : ℕ) → i < n → i ≢ r → IsCombined m old new products pivot q i
  pub rest : (i : ℕ) → n ≤ i → slice_get new i ≡ slice_get old i
  pub kept : slice_get new r ≡ slice_get old r
