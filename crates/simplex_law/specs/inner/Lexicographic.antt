-- the lexicographic order of rows, each with its value in front
use Rattle.std.specs.Prelude.{ℕ, ℤ, zero, suc, pos, ◌≡◌, ◌<ℤ◌, ◌⊎◌}
use Rattle.simplex_law.specs.Sums.{dot}

-- the first of n numbers that isn't 0 is positive, or all are 0
abbrev pub IsLexNonneg : ℕ → (ℕ → ℤ) → Type 0
IsLexNonneg zero v = Unit {0}
IsLexNonneg (suc n) v = (pos 0 <ℤ v 0) ⊎ ((v 0 ≡ pos 0) × IsLexNonneg n (λ k. v (suc k)))

-- x, and then the numbers u
abbrev pub fronted : ℤ → (ℕ → ℤ) → ℕ → ℤ
fronted x u zero = x
fronted x u (suc k) = u k

-- a row with its product with the bounds in front
abbrev pub valued : ℕ → (ℕ → ℤ) → (ℕ → ℤ) → ℕ → ℤ
valued m bound nums = fronted (dot m nums bound) nums
