-- the rows of the next basis
use Rattle.std.{specs.Prelude.{ℕ, ℤ, List, length, Option, Some, None, pos, ◌≡◌, ◌≢◌, ◌<◌, ◌^◌, ◌/◌, ◌*ℤ◌, ◌<ℤ◌, ◌⊎◌, unsigned_abs}, specs.Int.IsGcd, specs.List.slice_get}
use Rattle.checked_fraction.{specs.Terms.{num, IsNarrow, IsReduced, combined, IsTooWide}, specs.declared.row.Row.Row, specs.declared.wide.WideNumber.WideNumber}
use Rattle.simplex_law.specs.Terms.{IsWide}
use Rattle.simplex_core.specs.Tables.{nums_at, den_at, nums_of, den_of}

-- p divided by its common divisor with q is below 2 ^ 62 in absolute value
abbrev pub IsNarrowOver : ℤ → ℤ → Type 0
IsNarrowOver q p = (g : ℕ) → IsGcd (unsigned_abs p) (unsigned_abs q) g → unsigned_abs p / g < 2 ^ 62

-- as many products as n rows; that of row r, the pivot, is positive and narrow, and with it divided each is narrow
pub record HavePivot (products : List ℤ) (n r : ℕ) : Type 0 where
  pub count : length products ≡ n
  pub short : n < 2 ^ 32
  pub inside : r < n
  pub positive : pos 0 <ℤ num products r
  pub narrow : IsNarrow (num products r)
  pub over : (k : ℕ) → k < n → IsNarrowOver (num products r) (num products k)

-- with the pivot of row r divided, the cost and all products are narrow; or a row whose product is wide, the objective row last
abbrev pub FindsWideProduct : List ℤ → ℤ → ℕ → Option ℕ → Type 0
FindsWideProduct products cost r None = IsNarrow (num products r) × IsNarrowOver (num products r) cost
    × ((k : ℕ) → k < length products → IsNarrowOver (num products r) (num products k))
FindsWideProduct products cost r (Some i) = ((i ≡ length products) × IsWide cost) ⊎ ((i < length products) × IsWide (num products i))

-- a row becomes the one combined with the pivot row
abbrev pub IsCombinedRow : ℕ → Option Row → Option Row → ℤ → (ℕ → ℤ) → ℤ → Type 0
IsCombinedRow m old new p pivot q = IsReduced m (combined (num (nums_of old)) p pivot q) (den_of old *ℤ q) (num (nums_of new)) (den_of new)

-- row i does
abbrev pub IsCombined : ℕ → List Row → List Row → List ℤ → (ℕ → ℤ) → ℤ → ℕ → Type 0
IsCombined m old new products pivot q i = IsCombinedRow m (slice_get old i) (slice_get new i) (num products i) pivot q

-- a row can't be combined, since it gets too wide
abbrev pub IsTooWideRow : ℕ → Option Row → ℤ → (ℕ → ℤ) → ℤ → Type 0
IsTooWideRow m old p pivot q = (wide : WideNumber) × IsTooWide m (combined (num (nums_of old)) p pivot q) (den_of old *ℤ q) wide

-- row i can't
abbrev pub IsTooWideAt : ℕ → List Row → List ℤ → (ℕ → ℤ) → ℤ → ℕ → Type 0
IsTooWideAt m old products pivot q i = IsTooWideRow m (slice_get old i) (num products i) pivot q

-- the rows of the next basis: each combined with row r, and that one over its product
pub record AreTurned (m : ℕ) (old new : List Row) (products : List ℤ) (r : ℕ) : Type 0 where
  pub count : length new ≡ length old
  pub sizes : (i : ℕ) → i < m → length (nums_of (slice_get new i)) ≡ m
  pub others : (i : ℕ) → i < m → i ≢ r → IsCombined m old new products (nums_at old r) (num products r) i
  pub pivot : IsReduced m (nums_at old r) (num products r) (nums_at new r) (den_at new r)

-- a row but row r that gets too wide
abbrev pub IsWideRow : ℕ → List Row → List ℤ → ℕ → ℕ → Type 0
IsWideRow m old products r i = (i < m) × (i ≢ r) × IsTooWideAt m old products (nums_at old r) (num products r) i
