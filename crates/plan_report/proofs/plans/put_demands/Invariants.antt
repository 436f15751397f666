use Rattle.std.proofs.Common.{◌∷◌, take, flat_map}
use Rattle.text_kit.specs.Terms.{Opening, AddsItems}
use Rattle.plan_report.specs.Items.{demand_items}
use Rattle.plan_report.proofs.plans.put_demands.Given as goal

abbrev pub invariant-loop-demand : goal.invariant-loop-demand
invariant-loop-demand l = AddsItems l.fn.text (Opening ∷ flat_map (demand_items l.places l.nodes) (take l.demand-index l.demands)) l.text
