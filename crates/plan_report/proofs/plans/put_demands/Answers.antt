use Rattle.std.proofs.Common.{◌∷◌, [], arith}
use Rattle.text_kit.{specs.Terms.Opening, proofs.Lemmas.{adds_list, adds_next}}
use Rattle.plan_report.specs.Items.{demand_items}
use Rattle.plan_report.proofs.plans.put_demands.Goals as goal

pub loop-demand-preserved : goal.loop-demand-preserved
loop-demand-preserved c = adds_next (Opening ∷ []) (demand_items c.args.places c.args.nodes.now) c.args.demands.now c.loop-demand.demand-index c.demand-item.result c.loop-demand-test.true c.demand-item.is c.loop-demand.invariant c.in_ok-put_demand.ensures

pub returns : goal.returns
returns c = adds_list (demand_items c.args.places c.args.nodes.now) c.args.demands.now c.loop-demand.demand-index _ _ (omega (arith, c.loop-demand-test.false)) c.loop-demand.invariant c.put_close.ensures
