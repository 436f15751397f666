-- what the simplex method keeps: the rows of a basis' inverse, and its duals
use Rattle.std.specs.Prelude.{ℕ, ℤ, suc, pos, ◌≡◌, ◌<◌, ◌*ℤ◌, ◌<ℤ◌}
use Rattle.simplex_law.{specs.Sums.{int_sum, unit_vector}, specs.Programs.ColumnOf, specs.Bases.IsRow, specs.inner.Lexicographic.{IsLexNonneg, valued}}

-- the right inverse: with weights that bring all rows over one denominator, the columns times the rows are that denominator
pub record IsFilling (m : ℕ) (basic nums : ℕ → ℕ → ℤ) (den w : ℕ → ℤ) (all : ℤ) : Type 0 where
  pub positive : pos 0 <ℤ all
  pub weights : (j : ℕ) → j < m → w j *ℤ den j ≡ all
  pub filled : (k l : ℕ) → k < m → l < m → int_sum m (λ j. (w j *ℤ nums j l) *ℤ basic j k) ≡ all *ℤ unit_vector k l

-- the rows of the inverse of a basis, each lexicographically 0 or more with its value in front, and its duals
pub record IsTableau {N : Type 0} (m : ℕ) (bound : ℕ → ℤ) (basis : ℕ → ColumnOf N) (nums : ℕ → ℕ → ℤ) (den : ℕ → ℤ) (duals : ℕ → ℤ)
    (duals_den : ℤ) : Type 0 where
  pub rows : (i : ℕ) → i < m → IsRow m (λ j. (basis j).entry) (unit_vector i) (nums i) (den i)
  pub over : (i : ℕ) → i < m → pos 0 <ℤ den i
  pub lex : (i : ℕ) → i < m → IsLexNonneg (suc m) (valued m bound (nums i))
  pub objective : IsRow m (λ j. (basis j).entry) (λ j. (basis j).gain) duals duals_den
  pub above : pos 0 <ℤ duals_den
  pub filling : (w : ℕ → ℤ) × (all : ℤ) × IsFilling m (λ j. (basis j).entry) nums den w all

-- a basis has a tableau, whatever its rows are multiplied by
pub record HasTableau {N : Type 0} (m : ℕ) (bound : ℕ → ℤ) (basis : ℕ → ColumnOf N) : Type 0 where
  pub nums : ℕ → ℕ → ℤ
  pub den : ℕ → ℤ
  pub duals : ℕ → ℤ
  pub duals_den : ℤ
  pub tableau : IsTableau m bound basis nums den duals duals_den
