use Rattle.std.proofs.Common.{◌∷◌, take, flat_map}
use Rattle.text_kit.specs.Terms.{Opening, AddsItems}
use Rattle.plan_report.specs.Items.{route_column_items}
use Rattle.plan_report.proofs.evidence.put_route_basis.Given as goal

abbrev pub invariant-loop-column : goal.invariant-loop-column
invariant-loop-column l = AddsItems l.fn.text (Opening ∷ flat_map (route_column_items l.links l.demands) (take l.column-index l.basis)) l.text
