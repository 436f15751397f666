-- which column enters, which row leaves, and the rows after the pivot
use Rattle.std.specs.Prelude.{ℕ, ℤ, suc, pos, ◌≢◌, ◌<◌, ◌*ℤ◌, ◌-ℤ◌, ◌<ℤ◌}
use Rattle.checked_fraction.specs.Terms.{IsReduced, combined}
use Rattle.simplex_law.{specs.Sums.dot, specs.Programs.ColumnOf, specs.inner.Lexicographic.{IsLexNonneg, valued}}

-- the numbers u with their value in front, over p, come no later than those of v over q
abbrev pub IsNoLater : ℕ → (ℕ → ℤ) → (ℕ → ℤ) → ℤ → (ℕ → ℤ) → ℤ → Type 0
IsNoLater m bound u p v q = IsLexNonneg (suc m) (combined (valued m bound v) q (valued m bound u) p)

-- the first row comes no later than the second by the ratio test of column a
abbrev pub IsRatioLe : ℕ → (ℕ → ℤ) → (ℕ → ℤ) → (ℕ → ℤ) → (ℕ → ℤ) → Type 0
IsRatioLe m bound a first second = IsNoLater m bound first (dot m first a) second (dot m second a)

-- column c enters at row r: it gains, and r is first by the ratio test
pub record IsPick {N : Type 0} (m : ℕ) (bound : ℕ → ℤ) (nums : ℕ → ℕ → ℤ) (duals : ℕ → ℤ) (duals_den : ℤ) (c : ColumnOf N) (r : ℕ) : Type 0 where
  pub inside : r < m
  pub positive : pos 0 <ℤ dot m (nums r) c.entry
  pub gains : (dot m duals c.entry -ℤ (duals_den *ℤ c.gain)) <ℤ pos 0
  pub ratio : (i : ℕ) → i < m → i ≢ r → pos 0 <ℤ dot m (nums i) c.entry → IsRatioLe m bound c.entry (nums r) (nums i)

-- the rows after a turn: each combined with the pivot row, and that one over its pivot, in lowest terms
pub record IsTurned {N : Type 0} (m : ℕ) (c : ColumnOf N) (r : ℕ) (nums next : ℕ → ℕ → ℤ) (den next_den : ℕ → ℤ) (duals next_duals : ℕ → ℤ)
    (duals_den next_duals_den : ℤ) : Type 0 where
  pub others : (i : ℕ) → i < m → i ≢ r
      → IsReduced m (combined (nums i) (dot m (nums i) c.entry) (nums r) (dot m (nums r) c.entry)) (den i *ℤ dot m (nums r) c.entry) (next i) (next_den i)
  pub pivot : IsReduced m (nums r) (dot m (nums r) c.entry) (next r) (next_den r)
  pub objective : IsReduced m (combined duals (dot m duals c.entry -ℤ (duals_den *ℤ c.gain)) (nums r) (dot m (nums r) c.entry))
      (duals_den *ℤ dot m (nums r) c.entry) next_duals next_duals_den
