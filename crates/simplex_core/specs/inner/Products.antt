-- products of rows with columns
use Rattle.std.specs.Prelude.{ℕ, ℤ, List, length, Option, Some, None, ◌≡◌, ◌<◌, ◌≤◌, ◌^◌, unsigned_abs}
use Rattle.checked_fraction.{specs.Terms.{num, IsNarrow}, specs.declared.row.Row.Row}
use Rattle.simplex_law.specs.Terms.{dot}
use Rattle.simplex_core.{specs.Tables.{nums_at, IsRectangle}, specs.Columns.entry_of, specs.declared.columns.Entry.Entry}

-- rows of as many numbers as there are rows, and as many bounds, all narrow
pub record AreBoundedRows (rows : List Row) (bounds : List ℤ) : Type 0 where
  pub rectangle : IsRectangle (length rows) rows
  pub short : length rows < 2 ^ 32
  pub count : length bounds ≡ length rows
  pub narrow : (k : ℕ) → IsNarrow (num bounds k)

-- the products of the first n rows with entries are these, and below 2 ^ 126
abbrev pub AreProducts : List Row → List Entry → List ℤ → ℕ → Type 0
AreProducts rows entries products n = (i : ℕ) → i < n
    → (num products i ≡ dot (length rows) (nums_at rows i) (entry_of entries)) × (unsigned_abs (num products i) < 2 ^ 126)

-- all products, or a row whose product is wide
abbrev pub HaveProducts : List Row → List Entry → List ℤ → Option ℕ → Type 0
HaveProducts rows entries products None = AreProducts rows entries products (length rows)
HaveProducts rows entries products (Some i) = (i < length rows) × (2 ^ 62 ≤ unsigned_abs (dot (length rows) (nums_at rows i) (entry_of entries)))
