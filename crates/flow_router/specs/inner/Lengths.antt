-- prices, and these over a common divisor
use Rattle.std.specs.Prelude.{◌≡◌, ℕ, ℤ, ◌/◌, ◌^◌, ◌≤◌, ◌<◌, List, length, map, pos, slice_index}
use Rattle.flow_router.{specs.declared.link_lengths.LinkLengths.LinkLengths, specs.declared.link_lengths.LinkLengths.TheVariants.{Fit, Long}}

-- the prices are the first n duals, none of which is negative
pub record AreLinkCosts (n : ℕ) (duals : ℕ → ℤ) (prices : List ℕ) : Type 0 where
  pub count : length prices ≡ n
  pub same : (e : ℕ) → e < n → duals e ≡ pos (slice_index prices e)

-- each number over the divisor
abbrev pub each_over : ℕ → List ℕ → List ℕ
each_over common prices = map (λ p. p / common) prices

-- the prices over the divisor, or one of them that is 2^32 or more
abbrev pub AreWhole : ℕ → List ℕ → LinkLengths → Type 0
AreWhole common prices (Fit lengths) = lengths ≡ each_over common prices
AreWhole common prices (Long link) = (link.0 < length prices) × (2 ^ 32 ≤ slice_index (each_over common prices) link.0)
