use Rattle.std.proofs.Common.{◌∷◌, take, flat_map}
use Rattle.text_kit.specs.Terms.{Opening, AddsItems}
use Rattle.plan_report.specs.Items.{flow_items}
use Rattle.plan_report.proofs.routings.put_flows.Given as goal

abbrev pub invariant-loop-flow : goal.invariant-loop-flow
invariant-loop-flow l = AddsItems l.fn.text (Opening ∷ flat_map (flow_items l.links l.demands) (take l.flow-index l.flows)) l.text
