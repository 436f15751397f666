-- optima of a packing program
use Rattle.std.specs.Prelude.{ℕ, ℤ, pos, ◌≡◌, ◌<◌, ◌*ℤ◌, ◌<ℤ◌, ◌≤ℤ◌}
use Rattle.checked_fraction.specs.Terms.{IsInLowestTerms}
use Rattle.simplex_law.{specs.Sums.{int_sum, dot}, specs.Programs.ColumnOf, specs.Bases.IsBest}

-- amounts of columns over scale that fit into the bounds
pub record FitBounds (columns rows : ℕ) (entry : ℕ → ℕ → ℤ) (bound amounts : ℕ → ℤ) (scale : ℤ) : Type 0 where
  pub positive : pos 0 <ℤ scale
  pub amounts_positive : (c : ℕ) → c < columns → pos 0 ≤ℤ amounts c
  pub within : (k : ℕ) → k < rows → int_sum columns (λ c. amounts c *ℤ entry c k) ≤ℤ (scale *ℤ bound k)

module _ {N : Type 0} (rows : ℕ) (bound : ℕ → ℤ) (is_column : ColumnOf N → Type 0) where
  -- a best basis with its duals in lowest terms, and values over den that fill each row; the values gain what the bounds are worth
  pub record IsOptimum (basis : ℕ → ColumnOf N) (values : ℕ → ℤ) (den : ℤ) (duals : ℕ → ℤ) (duals_den : ℤ) : Type 0 where
    pub best : IsBest rows bound is_column basis duals duals_den
    pub lowest : IsInLowestTerms rows duals duals_den
    pub positive : pos 0 <ℤ den
    pub values_positive : (j : ℕ) → j < rows → pos 0 ≤ℤ values j
    pub filled : (k : ℕ) → k < rows → int_sum rows (λ j. values j *ℤ (basis j).entry k) ≡ den *ℤ bound k
    pub equal : duals_den *ℤ int_sum rows (λ j. values j *ℤ (basis j).gain) ≡ den *ℤ dot rows duals bound

  -- no amounts of columns that fit into the bounds gain more than gain over den
  abbrev pub IsGreatestGain : ℤ → ℤ → Type 0
  IsGreatestGain gain den = (count : ℕ) (columns : ℕ → ColumnOf N) (amounts : ℕ → ℤ) (scale : ℤ) → ((c : ℕ) → c < count → is_column (columns c))
      → FitBounds count rows (λ c. (columns c).entry) bound amounts scale
      → (den *ℤ int_sum count (λ c. amounts c *ℤ (columns c).gain)) ≤ℤ (scale *ℤ gain)

-- prices of the rows over den that no column's gain exceeds
pub record ArePrices (columns rows : ℕ) (entry : ℕ → ℕ → ℤ) (gain duals : ℕ → ℤ) (den : ℤ) : Type 0 where
  pub duals_positive : (k : ℕ) → k < rows → pos 0 ≤ℤ duals k
  pub none : (c : ℕ) → c < columns → (den *ℤ gain c) ≤ℤ dot rows duals (entry c)

-- weak duality: what fits gains no more than the bounds are worth
abbrev pub PackingDuality : Type 0
PackingDuality = (columns rows : ℕ) (entry : ℕ → ℕ → ℤ) (gain bound amounts duals : ℕ → ℤ) (scale den : ℤ)
    → FitBounds columns rows entry bound amounts scale → ArePrices columns rows entry gain duals den
    → (den *ℤ int_sum columns (λ c. amounts c *ℤ gain c)) ≤ℤ (scale *ℤ dot rows duals bound)
