use Rattle.std.proofs.Common.{arith}
use Rattle.flow_router.proofs.Dividing.{divided_end, divided_none, divided_write}
use Rattle.flow_router.proofs.lowest_terms.divide.Goals as goal

pub loop-i-init : goal.loop-i-init
loop-i-init c = divided_none c.args.common c.args.flows.now

pub loop-i-preserved : goal.loop-i-preserved
loop-i-preserved c = divided_write c.args.common c.loop-i.i c.args.flows.now c.loop-i.flows c.index-flows-i-in-loop-i.result c.index-flows-i.result (omega (arith, c.loop-i-test.true, c.loop-i.invariant.count)) c.requires.divides c.loop-i.invariant

pub returns : goal.returns
returns c = divided_end c.args.common c.loop-i.i c.args.flows.now c.loop-i.flows (omega (arith, c.loop-i-test.false, c.loop-i.invariant.count)) c.loop-i.invariant
