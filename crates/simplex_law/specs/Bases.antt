-- bases of a packing program, and the steps from one to another
use Rattle.std.{specs.Prelude.{ℕ, ℤ, List, length, zero, suc, pos, Some, ◌≡◌, ◌<◌, ◌*ℤ◌, ◌<ℤ◌, ◌≤ℤ◌}, specs.List.slice_get}
use Rattle.simplex_law.{specs.Sums.{dot, unit_vector, put}, specs.Programs.ColumnOf}

-- the product of nums with each basic column j is den times target j
abbrev pub IsRow : ℕ → (ℕ → ℕ → ℤ) → (ℕ → ℤ) → (ℕ → ℤ) → ℤ → Type 0
IsRow rows basic target nums den = (j : ℕ) → j < rows → dot rows nums (basic j) ≡ den *ℤ target j

-- bases of as many columns as rows
module _ {N : Type 0} (rows : ℕ) where
  -- a row over a positive denominator whose product with each column j of the basis is target j
  abbrev pub IsBasisRow : (ℕ → ColumnOf N) → (ℕ → ℤ) → (ℕ → ℤ) → ℤ → Type 0
  IsBasisRow basis target nums den = (pos 0 <ℤ den) × IsRow rows (λ j. (basis j).entry) target nums den

  -- row i of the inverse
  abbrev pub IsInverseRow : (ℕ → ColumnOf N) → ℕ → (ℕ → ℤ) → ℤ → Type 0
  IsInverseRow basis i nums den = IsBasisRow basis (unit_vector i) nums den

  -- the basic gains times the inverse
  abbrev pub IsObjectiveRow : (ℕ → ColumnOf N) → (ℕ → ℤ) → ℤ → Type 0
  IsObjectiveRow basis nums den = IsBasisRow basis (λ j. (basis j).gain) nums den

  -- a column's gain exceeds its entries, priced by the duals over den
  abbrev pub Gains : (ℕ → ℤ) → ℤ → ColumnOf N → Type 0
  Gains duals den c = dot rows duals c.entry <ℤ (den *ℤ c.gain)

  -- the names of the columns of a basis, in order
  pub record AreNames (basis : ℕ → ColumnOf N) (names : List N) : Type 0 where
    pub count : length names ≡ rows
    pub each : (j : ℕ) → j < rows → slice_get names j ≡ Some (basis j).name

  -- one column is replaced, in its place, by a column of the program that gains at the prices of the basis before
  pub record GainingStep (is_column : ColumnOf N → Type 0) (before after : ℕ → ColumnOf N) : Type 0 where
    pub row : ℕ
    pub inside : row < rows
    pub enters : ColumnOf N
    pub is_column_of : is_column enters
    pub duals : ℕ → ℤ
    pub den : ℤ
    pub objective : IsObjectiveRow before duals den
    pub gains : Gains duals den enters
    pub after_is : (j : ℕ) → j < rows → after j ≡ put before row enters j

-- bases of a program: its rows, their bounds, and its columns, the slacks among them
module _ {N : Type 0} (rows : ℕ) (bound : ℕ → ℤ) (is_column : ColumnOf N → Type 0) where
  -- as many columns as rows, with an inverse, which times the bounds is nowhere negative
  pub record IsFeasible (basis : ℕ → ColumnOf N) : Type 0 where
    pub columns : (j : ℕ) → j < rows → is_column (basis j)
    pub filled : (i : ℕ) → i < rows → (nums : ℕ → ℤ) × (den : ℤ) × IsInverseRow rows basis i nums den × (pos 0 ≤ℤ dot rows nums bound)

  -- a feasible basis at whose prices, the duals over den, no column gains
  pub record IsBest (basis : ℕ → ColumnOf N) (duals : ℕ → ℤ) (den : ℤ) : Type 0 where
    pub feasible : IsFeasible basis
    pub objective : IsObjectiveRow rows basis duals den
    pub none : (c : ColumnOf N) → is_column c → Gains rows duals den c → ⊥

  -- n gaining steps over feasible bases, from the first to the last
  abbrev pub AreGainingSteps : ℕ → (ℕ → ColumnOf N) → (ℕ → ColumnOf N) → Type 0
  AreGainingSteps zero first last = (j : ℕ) → j < rows → first j ≡ last j
  AreGainingSteps (suc n) first last = (between : ℕ → ColumnOf N) × AreGainingSteps n first between × IsFeasible between
      × GainingStep rows is_column between last

  -- feasible bases lead from the first, by gaining steps, to this one
  pub record IsReached (first basis : ℕ → ColumnOf N) : Type 0 where
    pub from : IsFeasible first
    pub here : IsFeasible basis
    pub steps : ℕ
    pub path : AreGainingSteps steps first basis
