-- cells, rows and tables as text
use Rattle.std.specs.Prelude.{◌≡◌, ℕ, zero, suc, ◌-◌, ◌≤◌, cond, false, All, List, [], ◌∷◌, ◌++◌, Some, flat_map, get_or, length, slice_get}
use Rattle.text_layout.{specs.Places.characters, specs.declared.column.Column.Column}

-- n spaces
abbrev pub spaces : ℕ → List ℕ
spaces zero = []
spaces (suc n) = spaces n ++ 32 ∷ []

-- a cell with spaces after it or before it, up to a width in characters
abbrev pub left_cell : ℕ → List ℕ → List ℕ
left_cell width cell = cell ++ spaces (width - characters cell)

abbrev pub right_cell : ℕ → List ℕ → List ℕ
right_cell width cell = spaces (width - characters cell) ++ cell

-- a cell of a column, after its gap
abbrev pub cell_text : Column → List ℕ → List ℕ
cell_text column cell = spaces column.gap ++ cond column.right (right_cell column.width cell) (left_cell column.width cell)

-- the column at a place; one of no width where there is none
abbrev pub column_in : List Column → ℕ → Column
column_in columns i = get_or columns i (record { gap = 0; width = 0; right = false })

-- the first n cells of a row
abbrev pub cells_below : ℕ → List Column → List (List ℕ) → List ℕ
cells_below zero columns row = []
cells_below (suc i) columns row = cells_below i columns row ++ cell_text (column_in columns i) (get_or row i [])

-- a row as a line
abbrev pub row_text : List Column → List (List ℕ) → List ℕ
row_text columns row = cells_below (length row) columns row ++ 10 ∷ []

-- rows as lines
abbrev pub table_text : List Column → List (List (List ℕ)) → List ℕ
table_text columns rows = flat_map (row_text columns) rows

-- The least width that is no less than this one, and at which the cell at this place of each row fits.
pub record IsLeastWidth (least : ℕ) (rows : List (List (List ℕ))) (i width : ℕ) : Type 0 where
  pub wide : least ≤ width
  pub fits : All (λ row. characters (get_or row i []) ≤ width) rows
  pub narrow : (other : ℕ) → least ≤ other → All (λ row. characters (get_or row i []) ≤ other) rows → width ≤ other

-- A column as it was, but perhaps wider: as wide as the widest cell at this place of a row needs it, and no wider.
pub record IsWidened (column : Column) (rows : List (List (List ℕ))) (i : ℕ) (wide : Column) : Type 0 where
  pub gap : wide.gap ≡ column.gap
  pub right : wide.right ≡ column.right
  pub width : IsLeastWidth column.width rows i wide.width

-- the first n columns, each as wide as its cells
pub record AreWidened (columns : List Column) (rows : List (List (List ℕ))) (n : ℕ) (wide : List Column) : Type 0 where
  pub long : length wide ≡ n
  pub each : (i : ℕ) (c w : Column) → slice_get columns i ≡ Some c → slice_get wide i ≡ Some w → IsWidened c rows i w
