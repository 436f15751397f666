use Rattle.std.proofs.Common.{◌+◌, sym, subst}
use Rattle.net_core.proofs.Library.{slice_get-get_or}
use Rattle.text_layout.{specs.Cells.AreWidened, proofs.Widening.more_widened}
use Rattle.text_layout.proofs.column.widened.Goals as goal

pub loop-at-preserved : goal.loop-at-preserved
loop-at-preserved c = subst (AreWidened c.args.columns.now c.args.rows.now (c.loop-at.at + 1)) (sym c.in_ok-push.ensures.ok)
    (more_widened _ _ c.loop-at.at c.loop-at.wide _ c.widened_column.result c.loop-at.invariant (slice_get-get_or c.args.columns.now c.loop-at.at _ c.loop-at-test.true) c.widened_column.ensures)
