-- what pricing finds
use Rattle.std.specs.Prelude.{ℕ, ◌*ℤ◌, ◌<ℤ◌}
use Rattle.checked_fraction.{specs.Terms.{num, IsNarrow}, specs.declared.row.Row.Row}
use Rattle.simplex_law.specs.Terms.{dot, ColumnOf}
use Rattle.simplex_core.{specs.Columns.{column_of, AreEntries}, specs.declared.columns.Column.Column, specs.declared.columns.Price.Price, specs.declared.columns.Price.TheVariants.{Gain, Optimal, NoMemory}}

-- a column's gain exceeds its priced entries
abbrev pub GainsAt : {N : Type 0} → ℕ → Row → ColumnOf N → Type 0
GainsAt rows duals c = dot rows (num duals.nums) c.entry <ℤ (duals.den *ℤ c.gain)

-- a listed column that gains
pub record IsGainingColumn {N : Type 0} (rows : ℕ) (is_listed : ColumnOf N → Type 0) (duals : Row) (c : Column N) : Type 0 where
  pub listed : is_listed (column_of c)
  pub entries : AreEntries rows c.entries
  pub gain : IsNarrow c.gain
  pub gains : GainsAt rows duals (column_of c)

-- a listed column that gains, or that none does
abbrev pub Finds : {N : Type 0} → ℕ → (ColumnOf N → Type 0) → Row → Price N → Type 0
Finds rows is_listed duals (Gain c) = IsGainingColumn rows is_listed duals c
Finds rows is_listed duals Optimal = (c : ColumnOf _) → is_listed c → GainsAt rows duals c → ⊥
Finds rows is_listed duals NoMemory = Unit {0}
