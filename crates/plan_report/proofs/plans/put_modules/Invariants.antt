use Rattle.std.proofs.Common.{◌∷◌, take, flat_map, zip}
use Rattle.text_kit.specs.Terms.{Opening, AddsItems}
use Rattle.plan_report.specs.Items.{modules_items}
use Rattle.plan_report.proofs.plans.put_modules.Given as goal

abbrev pub invariant-loop-e : goal.invariant-loop-e
invariant-loop-e l = AddsItems l.fn.text (Opening ∷ flat_map modules_items (take l.e (zip l.links l.counts))) l.text
