-- the values of rows: their products with the bounds
use Rattle.std.specs.Prelude.{ℕ, ℤ, Option, Some, None, ◌≡◌, ◌<◌, ◌≤◌, ◌^◌, ◌*◌, unsigned_abs}
use Rattle.net_core.specs.Terms.{sum_below}
use Rattle.simplex_law.specs.Terms.{dot}

-- the absolute products of n numbers with the bounds
abbrev pub sizes_of : ℕ → (ℕ → ℤ) → (ℕ → ℤ) → ℕ
sizes_of n nums bounds = sum_below n (λ k. unsigned_abs (nums k) * unsigned_abs (bounds k))

-- the value of n numbers, or that their absolute products with the bounds sum to 2 ^ 126 or more
abbrev pub IsValueOf : ℕ → (ℕ → ℤ) → (ℕ → ℤ) → Option ℤ → Type 0
IsValueOf n nums bounds None = 2 ^ 126 ≤ sizes_of n nums bounds
IsValueOf n nums bounds (Some value) = (value ≡ dot n nums bounds) × (unsigned_abs value < 2 ^ 126)
