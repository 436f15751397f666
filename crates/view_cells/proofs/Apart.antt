-- columns that were widened are apart as before
use Rattle.std.proofs.Common.{ℕ, ◌≤◌, ◌<◌, false, List, get_or, length, arith}
use Rattle.net_core.proofs.Library.{AllByRecursion, All-from_get_or, All-from_recursion, All-get_or, recursion_from_All, slice_get-get_or}
use Rattle.text_layout.{specs.Cells.AreWidened, specs.declared.column.Column.Column}
use Rattle.view_cells.specs.Tables.{IsApart}

no_column : Column
no_column = record { gap = 0; width = 0; right = false }

pub still_apart : (columns : List Column) (rows : List (List (List ℕ))) (wide : List Column) → AreWidened columns rows (length columns) wide
    → AllByRecursion IsApart columns → AllByRecursion IsApart wide
still_apart columns rows wide are apart = recursion_from_All IsApart wide (All-from_get_or IsApart wide no_column (λ i lt.
    let within : i < length columns = omega (arith, lt, are.long) in
    let is = are.each i (get_or columns i no_column) (get_or wide i no_column) (slice_get-get_or columns i no_column within)
    (slice_get-get_or wide i no_column lt) in
    let before : 2 ≤ (get_or columns i no_column).gap = All-get_or IsApart columns i no_column within (All-from_recursion IsApart columns apart) in
    omega (arith, is.gap, before)))
