use Rattle.std.proofs.Common.{arith}
use Rattle.plan_report.{specs.Items.routing_items, specs.inner.Naming.known_in, proofs.Putting.{adds_numbered, adds_numbered_list}}
use Rattle.plan_report.proofs.routings.put_routings.Goals as goal

pub loop-i-preserved : goal.loop-i-preserved
loop-i-preserved c = adds_numbered (routing_items (known_in c.args.names.now) c.args.demands.now) 0 c.args.routings.now c.loop-i.i _ c.index-routings-i.result c.loop-i-test.true (omega arith) c.index-routings-i.is c.loop-i.invariant c.in_ok-put_routing.ensures

pub returns : goal.returns
returns c = adds_numbered_list (routing_items (known_in c.args.names.now) c.args.demands.now) 0 c.args.routings.now c.loop-i.i _ _ (omega (arith, c.loop-i-test.false)) c.loop-i.invariant c.put_close.ensures
