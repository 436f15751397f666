use Rattle.std.proofs.Common.{arith}
use Rattle.plan_report.{specs.Items.pool_line_items, proofs.Putting.{adds_numbered, adds_numbered_list}}
use Rattle.plan_report.proofs.pool.put_pool.Goals as goal

pub loop-i-preserved : goal.loop-i-preserved
loop-i-preserved c = adds_numbered pool_line_items 0 c.args.pool.now c.loop-i.i _ c.index-pool-i.result c.loop-i-test.true (omega arith) c.index-pool-i.is c.loop-i.invariant c.in_ok-put_pool_line.ensures

pub returns : goal.returns
returns c = adds_numbered_list pool_line_items 0 c.args.pool.now c.loop-i.i _ _ (omega (arith, c.loop-i-test.false)) c.loop-i.invariant c.put_close.ensures
