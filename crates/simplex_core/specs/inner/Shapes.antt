-- what a basis holds: names, rows, bounds
use Rattle.std.{specs.Prelude.{ℕ, ℤ, List, length, pos, Some, replicate, slice_set, ◌≡◌, ◌<◌, ◌^◌}, specs.List.slice_get}
use Rattle.checked_fraction.{specs.Terms.{num, IsNarrow}, specs.declared.row.Row.Row}
use Rattle.simplex_law.specs.Terms.{unit_vector}
use Rattle.simplex_core.{specs.Tables.{nums_at, den_at, IsRectangle}, specs.declared.basis.Basis.Basis}

-- each list of a basis of m rows has m items
pub record IsShaped {N : Type 0} (m : ℕ) (b : Basis N) : Type 0 where
  pub names : length b.names ≡ m
  pub rows : length b.rows ≡ m
  pub rectangle : IsRectangle m b.rows
  pub duals : length b.duals.nums ≡ m
  pub spare : length b.spare.nums ≡ m
  pub products : length b.products ≡ m
  pub bounds : length b.bounds ≡ m
  pub narrow : (k : ℕ) → IsNarrow (num b.bounds k)
  pub short : m < 2 ^ 32

-- each item of a list fits its place
abbrev pub AtEach : {X : Type 0} → (ℕ → X → Type 0) → List X → Type 0
AtEach P xs = (i : ℕ) (x : _) → slice_get xs i ≡ Some x → P i x

-- row i of the unit matrix of n rows
abbrev pub IsUnit : ℕ → ℕ → Row → Type 0
IsUnit n i row = (row.nums ≡ slice_set (replicate n (pos 0)) i (pos 1)) × (row.den ≡ pos 1)

-- the slack basis: unit rows over 1, and no prices
pub record IsStartBasis {N : Type 0} (m : ℕ) (bound : ℕ → ℤ) (slack : ℕ → N) (b : Basis N) : Type 0 where
  pub shaped : IsShaped m b
  pub names : AtEach (λ i name. name ≡ slack i) b.names
  pub bounds : (k : ℕ) → k < m → num b.bounds k ≡ bound k
  pub units : (i k : ℕ) → i < m → k < m → nums_at b.rows i k ≡ unit_vector i k
  pub ones : (i : ℕ) → i < m → den_at b.rows i ≡ pos 1
  pub zeros : (k : ℕ) → k < m → num b.duals.nums k ≡ pos 0
  pub one : b.duals.den ≡ pos 1
