use Rattle.std.proofs.Common.{◌∷◌, [], arith, codes}
use Rattle.text_kit.{specs.Terms.{Opening, Verbatim}, proofs.Lemmas.{adds_next, adds_section}}
use Rattle.sample_net.specs.Texts.{unit_demand_items}
use Rattle.sample_net.proofs.texts.put_demands.Goals as goal

pub loop-demand-preserved : goal.loop-demand-preserved
loop-demand-preserved c = adds_next (Verbatim (codes "DEMANDS") ∷ Opening ∷ []) (unit_demand_items c.args.nodes.now) c.args.demands.now c.loop-demand.demand-index c.demand-item.result c.loop-demand-test.true c.demand-item.is c.loop-demand.invariant c.in_ok-put_demand.ensures

pub returns : goal.returns
returns c = adds_section (codes "DEMANDS") (unit_demand_items c.args.nodes.now) c.args.demands.now c.loop-demand.demand-index _ _ (omega (arith, c.loop-demand-test.false)) c.loop-demand.invariant c.put_close.ensures
