use Rattle.text_layout.proofs.Widths.{row_more}
use Rattle.text_layout.proofs.column.width_of.Goals as goal

pub loop-row-preserved : goal.loop-row-preserved
loop-row-preserved c = rw (c.max-most.ensures, c.width_at.ensures, c.items.ensures) (row_more c.args.width c.args.rows.now c.loop-row.row-index c.args.at c.loop-row.most c.row-item.result c.loop-row-test.true c.row-item.is c.loop-row.invariant)
