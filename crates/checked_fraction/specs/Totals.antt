-- running sums of products
use Rattle.std.specs.Prelude.{ℤ, Option, Some, None, pos, ◌≡◌, ◌≤◌, ◌^◌, ◌+ℤ◌, ◌*ℤ◌, unsigned_abs}
use Rattle.checked_fraction.specs.declared.sum.Sum.{Sum}

-- the value of a running sum
abbrev pub total : Sum → ℤ
total s = (s.high *ℤ pos (2 ^ 62)) +ℤ pos s.low

-- a running sum that can take one product more
pub record HasRoom (s : Sum) : Type 0 where
  pub high : unsigned_abs s.high ≤ 2 ^ 126
  pub low : s.low ≤ 2 ^ 126

-- a number up to 2 ^ 124 in absolute value as it is, and none only where it is that or more
abbrev pub IsExact : ℤ → Option ℤ → Type 0
IsExact z None = 2 ^ 124 ≤ unsigned_abs z
IsExact z (Some p) = (p ≡ z) × (unsigned_abs p ≤ 2 ^ 124)
