use Rattle.std.proofs.Common.{take}
use Rattle.text_layout.specs.Cells.{IsLeastWidth}
use Rattle.text_layout.proofs.column.width_of.Given as goal

-- wide enough for the rows so far
abbrev pub invariant-loop-row : goal.invariant-loop-row
invariant-loop-row l = IsLeastWidth l.width (take l.row-index l.rows) l.at l.most
