-- rows as a table of numbers
use Rattle.std.{specs.Prelude.{ℕ, ℤ, List, [], length, Option, Some, None, pos, ◌≡◌, ◌<◌}, specs.List.slice_get}
use Rattle.checked_fraction.{specs.Terms.num, specs.declared.row.Row.Row}

abbrev pub nums_of : Option Row → List ℤ
nums_of None = []
nums_of (Some row) = row.nums

abbrev pub den_of : Option Row → ℤ
den_of None = pos 1
den_of (Some row) = row.den

-- the numbers of row i
abbrev pub nums_at : List Row → ℕ → ℕ → ℤ
nums_at rows i = num (nums_of (slice_get rows i))

-- the denominator of row i
abbrev pub den_at : List Row → ℕ → ℤ
den_at rows i = den_of (slice_get rows i)

-- each row has m numbers
abbrev pub IsRectangle : ℕ → List Row → Type 0
IsRectangle m rows = (i : ℕ) → i < length rows → length (nums_of (slice_get rows i)) ≡ m
