-- optima of the master program, whose bases need not be reached by gaining steps
use Rattle.std.specs.Prelude.{ℕ, ◌≡◌, ◌<◌, ◌^◌, ◌≤ℤ◌, ◌⊎◌, List, Some, pos, get_or, length, slice_get}
use Rattle.checked_fraction.specs.Terms.{num}
use Rattle.module_prices.specs.declared.cheapest.UnitPair.{UnitPair}
use Rattle.plan_terms.specs.Terms.{MasterColumn, Link, CutLine}
use Rattle.simplex_law.specs.Terms.{ColumnOf, AreNames, IsOptimum}
use Rattle.simplex_core.specs.declared.optimum.Optimum.{Optimum}
use Rattle.master_law.specs.Terms.{HasWideValue, IsMasterColumn, master_bound}
use Rattle.master_bound.specs.Narrow.{IsWideCut}

-- a best basis of the master program of the cuts, with values that fill its rows over a denominator below 2^62, and a price of each
-- link, none of them below 0, of equal value
pub record IsMasterOptimum (links : List Link) (pairs : List UnitPair) (cuts : List CutLine) (best : Optimum MasterColumn) : Type 0 where
  pub basis : ℕ → ColumnOf MasterColumn
  pub names : AreNames (length links) basis best.basis
  pub optimum : IsOptimum (length links) (master_bound pairs) (IsMasterColumn links pairs cuts) basis (λ j. pos (get_or best.values j 0)) (pos best.den)
      (num best.duals.nums) best.duals.den
  pub narrow : best.den < 2 ^ 62
  pub count : length best.values ≡ length links
  pub prices : length best.duals.nums ≡ length links
  pub positive : (k : ℕ) → k < length links → pos 0 ≤ℤ num best.duals.nums k

-- the values of the basis are too wide for a certificate
abbrev pub IsWideOptimum : List Link → List UnitPair → List CutLine → Optimum MasterColumn → Type 0
IsWideOptimum links pairs cuts best = (o : IsMasterOptimum links pairs cuts best) → HasWideValue links pairs cuts o.basis

-- a number of a cut is too wide, or the values of the basis are
abbrev pub IsTooWideForCertificate : List Link → List UnitPair → List CutLine → Optimum MasterColumn → Type 0
IsTooWideForCertificate links pairs cuts best = ((k : ℕ) × (cut : CutLine) × (slice_get cuts k ≡ Some cut) × IsWideCut links pairs cut)
    ⊎ IsWideOptimum links pairs cuts best
