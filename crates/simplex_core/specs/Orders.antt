-- the order of numbers
use Rattle.std.{specs.Prelude.{ℕ, ℤ, ◌≡◌, ◌<◌, ◌<ℤ◌}, specs.declared.cmp.Ordering.Ordering, specs.declared.cmp.Ordering.TheVariants.{Less, Equal, Greater}}

-- how x compares to y
abbrev pub HasOrder : ℤ → ℤ → Ordering → Type 0
HasOrder x y Less = x <ℤ y
HasOrder x y Equal = x ≡ y
HasOrder x y Greater = y <ℤ x

-- u and v are equal before a place, and u is less there
abbrev pub IsFirstLess : ℕ → (ℕ → ℤ) → (ℕ → ℤ) → Type 0
IsFirstLess m u v = (at : ℕ) × (at < m) × ((k : ℕ) → k < at → u k ≡ v k) × (u at <ℤ v at)

-- how m numbers u compare with v, by the first that differs
abbrev pub ComparesNumbers : ℕ → (ℕ → ℤ) → (ℕ → ℤ) → Ordering → Type 0
ComparesNumbers m u v Less = IsFirstLess m u v
ComparesNumbers m u v Equal = (k : ℕ) → k < m → u k ≡ v k
ComparesNumbers m u v Greater = IsFirstLess m v u
