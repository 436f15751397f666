-- the share of an objective row
use Rattle.std.specs.Prelude.{ℕ, ℤ, ◌≡◌, ◌<◌, ◌^◌, List, All, pos, length, slice_index}
use Rattle.checked_fraction.{specs.Terms.num, specs.declared.row.Row.Row}
use Rattle.plan_types.specs.declared.quality.Share.{Share}

-- the units are the first n prices, none of which is negative
pub record AreUnitsOf (n : ℕ) (duals : ℕ → ℤ) (units : List ℕ) : Type 0 where
  pub count : length units ≡ n
  pub same : (e : ℕ) → e < n → duals e ≡ pos (slice_index units e)
  pub low : All (λ u. u < 2 ^ 62) units

-- units and scale are the row's numbers and its denominator
pub record IsShareOfDuals (duals : Row) (share : Share) : Type 0 where
  pub scale : duals.den ≡ pos share.scale
  pub scale_low : share.scale < 2 ^ 62
  pub units : AreUnitsOf (length duals.nums) (num duals.nums) share.units
