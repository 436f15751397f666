use Rattle.text_layout.specs.Cells.{AreWidened}
use Rattle.text_layout.proofs.column.widened.Given as goal

-- the columns so far
abbrev pub invariant-loop-at : goal.invariant-loop-at
invariant-loop-at l = AreWidened l.columns l.rows l.at l.wide
