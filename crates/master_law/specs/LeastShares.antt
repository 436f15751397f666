-- least shares of cuts: the cheapest shares that violate none of them
use Rattle.std.{specs.Prelude.{◌≡◌, ℕ, ℤ, ◌<◌, List, All, pos, length, slice_index}, specs.Int.◌∣◌}
use Rattle.module_prices.specs.declared.cheapest.UnitPair.{UnitPair}
use Rattle.plan_terms.specs.Terms.{MasterColumn, Link, CutLine}
use Rattle.plan_types.specs.declared.quality.Share.{Share}
use Rattle.simplex_law.specs.Terms.{ColumnOf, IsBest}
use Rattle.master_law.specs.MasterPrograms.{master_bound, IsMasterColumn}

-- a least share of cuts: units and scale are the objective row of a best basis of their master program, in lowest terms
pub record IsLeastShare (links : List Link) (pairs : List UnitPair) (cuts : List CutLine) (share : Share) : Type 0 where
  pub basis : ℕ → ColumnOf MasterColumn
  pub duals : ℕ → ℤ
  pub den : ℤ
  pub best : IsBest (length links) (master_bound pairs) (IsMasterColumn links pairs cuts) basis duals den
  pub scale : den ≡ pos share.scale
  pub count : length share.units ≡ length links
  pub units : (e : ℕ) → e < length links → duals e ≡ pos (slice_index share.units e)
  pub lowest : (d : ℕ) → d ∣ share.scale → All (λ u. d ∣ u) share.units → d ≡ 1
