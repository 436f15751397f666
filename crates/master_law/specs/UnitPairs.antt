-- the unit pair of each link, and what a share of unit pairs gives and costs
use Rattle.std.specs.Prelude.{◌≡◌, ℕ, ◌+◌, ◌-◌, ◌*◌, ◌^◌, ◌≤◌, ◌⊎◌, List, [], Some, length, map, sum_by, zip, slice_get}
use Rattle.module_prices.specs.declared.cheapest.UnitPair.{UnitPair}
use Rattle.plan_terms.specs.Terms.{Link, Module, Caps, IsUnitPair}
use Rattle.plan_types.specs.declared.quality.Share.{Share}

-- the unit pair of a link with these modules; 0 and 0 where it has none
abbrev pub IsPairOfLink : List Module → UnitPair → Type 0
IsPairOfLink modules pair = ((modules ≡ []) × (pair.capacity ≡ 0) × (pair.cost ≡ 0)) ⊎ IsUnitPair modules pair.capacity pair.cost

-- one unit pair for each link
pub record AreUnitPairs (links : List Link) (pairs : List UnitPair) : Type 0 where
  pub count : length pairs ≡ length links
  pub each : (e : ℕ) (l : Link) (p : UnitPair) → slice_get links e ≡ Some l → slice_get pairs e ≡ Some p → IsPairOfLink l.modules p

-- the capacity of each link in a share, over the share's scale: the pre-installed one, and its units of the unit pair
abbrev pub share_capacities : List Link → List UnitPair → Share → List ℕ
share_capacities links pairs share = map (λ p. p.0.fixed * share.scale + p.1.0.capacity * p.1.1) (zip links (zip pairs share.units))

-- the capacities of a share
abbrev pub share_caps : List Link → List UnitPair → Share → Caps
share_caps links pairs share = record { scale = share.scale; nums = share_capacities links pairs share }

-- what a share costs, over its scale
abbrev pub share_cost : List UnitPair → Share → ℕ
share_cost pairs share = sum_by (λ p. p.0.cost * p.1) (zip pairs share.units)

-- the need of a link of this unit capacity in a share: what its units give, rounded up, or 2^44 - 1 if that is less
pub record IsShareNeed (scale capacity units need : ℕ) : Type 0 where
  pub most : need ≤ 2 ^ 44 - 1
  pub enough : (need ≡ 2 ^ 44 - 1) ⊎ (capacity * units ≤ need * scale)
  pub least : (other : ℕ) → capacity * units ≤ other * scale → need ≤ other
