use Rattle.std.proofs.Common.{◌≡◌, ◌++◌, take}
use Rattle.text_layout.specs.Cells.{table_text}
use Rattle.text_layout.proofs.row.put_rows.Given as goal

-- the rows so far
abbrev pub invariant-loop-row : goal.invariant-loop-row
invariant-loop-row l = l.text ≡ l.fn.text ++ table_text l.columns (take l.row-index l.rows)
