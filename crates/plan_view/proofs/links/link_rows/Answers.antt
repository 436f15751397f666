use Rattle.plan_view.proofs.RowLists.{links_more}
use Rattle.plan_view.proofs.links.link_rows.Goals as goal

pub loop-e-preserved : goal.loop-e-preserved
loop-e-preserved c = rw c.in_ok-push.ensures.ok (links_more c.args.instance.now.net.now.links c.args.plan.now _ _ _ c.loop-e.invariant c.in_ok-row.ensures)
