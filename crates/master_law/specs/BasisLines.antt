-- the lines of a certificate that hold the cuts of a basis
use Rattle.std.specs.Prelude.{◌≡◌, ℕ, ◌*◌, ◌+ℤ◌, ◌*ℤ◌, List, pos, slice_index}
use Rattle.plan_terms.specs.Terms.{MasterColumn, Link, sum_below, CertificateLine, price, asked}
use Rattle.simplex_law.specs.Terms.{int_sum, ColumnOf}
use Rattle.master_law.specs.MasterPrograms.{column_lengths, column_given}

-- on each link, and in all, the lines ask for what the amounts of the first n columns do
pub record AreLinesOf (links : List Link) (n : ℕ) (basis : ℕ → ColumnOf MasterColumn) (amounts : ℕ → ℕ) (lines : List CertificateLine) : Type 0 where
  pub price_is : (e : ℕ) → price lines e ≡ sum_below n (λ j. amounts j * slice_index (column_lengths (basis j).name) e)
  pub asked_is : pos (asked lines) ≡ int_sum n (λ j. pos (amounts j) *ℤ ((basis j).gain +ℤ pos (column_given links (basis j).name)))
