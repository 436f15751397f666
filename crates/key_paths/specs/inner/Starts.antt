-- the slack basis, by its keys
use Rattle.std.specs.Prelude.{ℕ, ℤ, pos, ◌≡◌, ◌<◌, ◌+◌, get_or}
use Rattle.checked_fraction.specs.Terms.{num}
use Rattle.plan_terms.specs.Terms.{RouteColumn}
use Rattle.simplex_law.specs.Terms.{unit_vector}
use Rattle.simplex_core.specs.Terms.{nums_at, den_at}
use Rattle.key_rows.{specs.Terms.{amounts, column_name, IsShapedBasis}, specs.declared.keyed.Keyed.Keyed}

-- the slack basis, in which the slack of each demand is its key
pub record IsStart (links demands : ℕ) (bound : ℕ → ℤ) (slack : ℕ → RouteColumn) (b : Keyed) : Type 0 where
  pub shaped : IsShapedBasis links demands b
  pub names : (j : ℕ) → j < links + demands → column_name b.names j ≡ slack j
  pub places : (r : ℕ) → r < links + demands → get_or b.places r 0 ≡ r
  pub owners : (i : ℕ) → i < links → get_or b.owners i 0 ≡ demands
  pub units : (i k : ℕ) → i < links → k < links → nums_at b.rows i k ≡ unit_vector i k
  pub ones : (i : ℕ) → i < links → den_at b.rows i ≡ pos 1
  pub zeros : (k : ℕ) → k < links → num b.prices.nums k ≡ pos 0
  pub one : b.prices.den ≡ pos 1
  pub free : (d : ℕ) → d < demands → num b.duals d ≡ pos 0
  pub bounds : (r : ℕ) → r < links + demands → num b.bounds r ≡ bound r
  pub rest : (k : ℕ) → k < links → num b.rest k ≡ bound k
  pub values : (i : ℕ) → i < links → amounts b.values i ≡ bound i
