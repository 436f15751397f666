-- which row leaves when a column enters
use Rattle.std.{specs.Prelude.{ℕ, ℤ, pos, List, length, Option, Some, None, Result, Ok, Err, ◌≡◌, ◌<◌, ◌≤◌, ◌^◌, ◌<ℤ◌, unsigned_abs, ◌≤ℤ◌, ◌⊎◌}, specs.declared.cmp.Ordering.Ordering, specs.declared.cmp.Ordering.TheVariants.{Less, Equal, Greater}}
use Rattle.simplex_law.specs.Terms.{IsNoLater, dot}
use Rattle.checked_fraction.{specs.Terms.num, specs.declared.row.Row.Row}
use Rattle.simplex_core.{specs.Tables.nums_at, specs.inner.Values.sizes_of, specs.declared.ratio_test.Candidate.Candidate}

-- a row of m with a product that is positive and below 2 ^ 126
pub record IsPlaced (m : ℕ) (c : Candidate) : Type 0 where
  pub inside : c.row < m
  pub positive : pos 0 <ℤ c.product
  pub low : unsigned_abs c.product < 2 ^ 126

-- the value and the product are those of the row
pub record IsCandidate (m : ℕ) (rows : List Row) (bounds products : List ℤ) (c : Candidate) : Type 0 where
  pub placed : IsPlaced m c
  pub value : pos c.value ≡ dot m (nums_at rows c.row) (num bounds)
  pub product : c.product ≡ num products c.row

-- how the ratio of u and p compares to that of v and q
abbrev pub ComparesRatios : ℕ → (ℕ → ℤ) → (ℕ → ℤ) → ℤ → (ℕ → ℤ) → ℤ → Ordering → Type 0
ComparesRatios m bound u p v q Less = IsNoLater m bound u p v q
ComparesRatios m bound u p v q Equal = IsNoLater m bound v q u p
ComparesRatios m bound u p v q Greater = IsNoLater m bound v q u p

-- two rows of one program, whose values the bounds give
abbrev pub HaveRowValues : List Row → (ℕ → ℤ) → Candidate → Candidate → Type 0
HaveRowValues rows bound first second = (pos first.value ≡ dot (length rows) (nums_at rows first.row) bound)
    × (pos second.value ≡ dot (length rows) (nums_at rows second.row) bound)

-- how the ratios of two rows compare
abbrev pub ComparesRows : List Row → (ℕ → ℤ) → Candidate → Candidate → Ordering → Type 0
ComparesRows rows bound first second order = ComparesRatios (length rows) bound (nums_at rows first.row) first.product
    (nums_at rows second.row) second.product order

-- the first comes no later than the second
abbrev pub IsFirstOf : List Row → (ℕ → ℤ) → Candidate → Candidate → Type 0
IsFirstOf rows bound first second = IsNoLater (length rows) bound (nums_at rows first.row) first.product (nums_at rows second.row) second.product

-- the better of some row and another one, of which it is one
abbrev pub IsBetter : List Row → Option Candidate → Candidate → Candidate → Type 0
IsBetter rows None other better = better ≡ other
IsBetter rows (Some best) other better =
    ((better ≡ best) × ((bound : ℕ → ℤ) → HaveRowValues rows bound other best → IsFirstOf rows bound best other))
    ⊎ ((better ≡ other) × ((bound : ℕ → ℤ) → HaveRowValues rows bound other best → IsFirstOf rows bound other best))

-- row r comes no later than row k
abbrev pub IsRowNoLater : ℕ → List Row → List ℤ → List ℤ → ℕ → ℕ → Type 0
IsRowNoLater m rows bounds products r k = IsNoLater m (num bounds) (nums_at rows r) (num products r) (nums_at rows k) (num products k)

-- the first of the first n rows whose product is positive
abbrev pub IsBestBefore : ℕ → List Row → List ℤ → List ℤ → ℕ → Option Candidate → Type 0
IsBestBefore m rows bounds products n None = (k : ℕ) → k < n → num products k ≤ℤ pos 0
IsBestBefore m rows bounds products n (Some best) = IsCandidate m rows bounds products best
    × ((k : ℕ) → k < n → pos 0 <ℤ num products k → IsRowNoLater m rows bounds products best.row k)

-- the first of all rows whose product is positive, if any is, or a row whose value is wide
abbrev pub IsLeavingRow : ℕ → List Row → List ℤ → List ℤ → Result (Option ℕ) ℕ → Type 0
IsLeavingRow m rows bounds products (Err i) = (i < m) × (2 ^ 126 ≤ sizes_of m (nums_at rows i) (num bounds))
IsLeavingRow m rows bounds products (Ok None) = (k : ℕ) → k < m → num products k ≤ℤ pos 0
IsLeavingRow m rows bounds products (Ok (Some r)) = (r < m) × (pos 0 <ℤ num products r)
    × ((k : ℕ) → k < m → pos 0 <ℤ num products k → IsRowNoLater m rows bounds products r k)
