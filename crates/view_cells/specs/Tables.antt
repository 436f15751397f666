-- texts that have the rows of a table
use Rattle.std.{specs.Prelude.{◌≡◌, ℕ, ◌≤◌, List, ◌++◌, All, length}, specs.List.AllByRecursion}
use Rattle.text_layout.{specs.Cells.table_text, specs.declared.column.Column.Column}

-- a cell of the column is two spaces apart from what is before it
abbrev pub IsApart : Column → Type 0
IsApart c = 2 ≤ c.gap

-- The text has these rows, a line each, with all their cells, which are apart. How wide the columns are is free.
pub record HasRows (rows : List (List (List ℕ))) (text : List ℕ) : Type 0 where
  pub columns : List Column
  pub apart : AllByRecursion IsApart columns
  pub enough : All (λ row. length row ≤ length columns) rows
  pub printed : text ≡ table_text columns rows

-- rows above others, which have columns of their own
pub record HasRowsAbove (above below : List (List (List ℕ))) (text : List ℕ) : Type 0 where
  pub upper : List ℕ
  pub lower : List ℕ
  pub has_upper : HasRows above upper
  pub has_lower : HasRows below lower
  pub printed : text ≡ upper ++ lower
