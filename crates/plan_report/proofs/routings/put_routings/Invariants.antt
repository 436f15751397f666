use Rattle.std.proofs.Common.{◌∷◌, take, flat_map}
use Rattle.text_kit.specs.Terms.{Opening, AddsItems}
use Rattle.plan_report.{specs.Items.{numbered_from, routing_items}, specs.inner.Naming.known_in}
use Rattle.plan_report.proofs.routings.put_routings.Given as goal

abbrev pub invariant-loop-i : goal.invariant-loop-i
invariant-loop-i l = AddsItems l.fn.text (Opening ∷ flat_map (routing_items (known_in l.names) l.demands) (take l.i (numbered_from 0 l.routings))) l.text
