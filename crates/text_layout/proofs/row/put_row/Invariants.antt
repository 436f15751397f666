use Rattle.std.proofs.Common.{◌≡◌, ◌++◌}
use Rattle.text_layout.specs.Cells.{cells_below}
use Rattle.text_layout.proofs.row.put_row.Given as goal

-- the cells so far
abbrev pub invariant-loop-i : goal.invariant-loop-i
invariant-loop-i l = l.text ≡ l.fn.text ++ cells_below l.i l.columns l.row
