use Rattle.std.proofs.Common.{◌∷◌, [], arith}
use Rattle.text_kit.{specs.Terms.Opening, proofs.Lemmas.{adds_list, adds_next}}
use Rattle.plan_report.specs.Items.{flow_items}
use Rattle.plan_report.proofs.routings.put_flows.Goals as goal

pub loop-flow-preserved : goal.loop-flow-preserved
loop-flow-preserved c = adds_next (Opening ∷ []) (flow_items c.args.links.now c.args.demands.now) c.args.flows.now c.loop-flow.flow-index c.flow-item.result c.loop-flow-test.true c.flow-item.is c.loop-flow.invariant c.in_ok-put_flow.ensures

pub returns : goal.returns
returns c = adds_list (flow_items c.args.links.now c.args.demands.now) c.args.flows.now c.loop-flow.flow-index _ _ (omega (arith, c.loop-flow-test.false)) c.loop-flow.invariant c.put_close.ensures
